-- The first read that does not give the value of the exact memory.
use Rattle.std.specs.Prelude.{◌≡◌, ◌≢◌, ℕ, ◌<◌, List, Option, MatchOption, take}
use Rattle.lrc_trace.specs.declared.act.Act.{Act}
use Rattle.lrc_trace.specs.declared.act.Deed.TheVariants.{Read}
use Rattle.lrc_trace.specs.Run.{Does}
use Rattle.lrc_exact.specs.Rule.{Shape, State, KeepsExact, ReadsExactly, exact_value}
use Rattle.lrc_exact_judge.specs.LookedAt.{IsLookedAt}
use Rattle.lrc_exact_judge.specs.declared.first.Inexact.{Inexact}

-- Among the first n acts a read gives another value than the exact memory has for its node, and all reads before it give that value.
pub record IsFirstInexact (shape : Shape) (run : List Act) (n : ℕ) (first : Inexact) : Type 0 where
  pub within : first.position < n
  pub node : ℕ
  pub word : ℕ
  pub does : Does run first.position node (Read word first.read)
  pub apart : first.read ≢ first.given
  pub given : (states : List State) → KeepsExact shape (take first.position run) states
      → first.given ≡ exact_value shape (take first.position run) states node first.position word
  pub earlier : ReadsExactly shape (take first.position run)

-- what is found in the acts that are looked at
pub record IsFound (shape : Shape) (run : List Act) (found : Option Inexact) : Type 0 where
  pub n : ℕ
  pub looked_at : IsLookedAt shape.nodes run n
  pub is : MatchOption found (ReadsExactly shape (take n run)) (IsFirstInexact shape run n)
