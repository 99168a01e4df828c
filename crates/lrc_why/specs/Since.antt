-- Since when a position is known to a node.
use Rattle.std.specs.Prelude.{ℕ, List, Option, MatchOption}
use Rattle.lrc_trace.specs.declared.act.Act.{Act}
use Rattle.lrc_trace.specs.Order.{HappensBefore}
use Rattle.lrc_why_chains.specs.Chains.{IsTold}
use Rattle.lrc_why_chains.specs.Known.{IsActOf, IsFirstKnowing}
use Rattle.lrc_why.specs.declared.reasons.Since.{Since}

-- no act of the node knows the position
abbrev pub IsNeverKnown : List Act → ℕ → ℕ → Type 0
IsNeverKnown run node position = (k : ℕ) → IsActOf run node k → ¬ HappensBefore run position k

-- The first act of the node that knows the position, and the chain that is told from the position to it.
pub record IsSince (run : List Act) (node position : ℕ) (since : Since) : Type 0 where
  pub first : IsFirstKnowing run node position since.first
  pub chain : IsTold run position since.first since.chain.items

-- where the node comes to know the position, this is since when
abbrev pub IsSinceIfKnown : List Act → ℕ → ℕ → Option Since → Type 0
IsSinceIfKnown run node position since = MatchOption since (IsNeverKnown run node position) (IsSince run node position)
