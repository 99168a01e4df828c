-- What is new at an act, by the act of its node before.
use Rattle.std.proofs.Common.{ℕ, ◌<◌, inl, inr, List, subst, arith}
use Rattle.std.specs.Prelude.{Option, Some, None, MatchOption}
use Rattle.std.proofs.lemmas.Bool.{cases_eq}
use Rattle.lrc_trace.specs.declared.act.Act.{Act}
use Rattle.lrc_trace.specs.Order.{HappensBefore, base, program}
use Rattle.lrc_trace.proofs.HappensBefore.{transitive}
use Rattle.lrc_why_chains.specs.Known.{IsActOf}
use Rattle.lrc_why.specs.Known.{IsActBefore}
use Rattle.lrc_why.specs.Positions.{IsNew, IsNewBehind, IsUnknownAt}

-- one act of a node happens before a later one
pub own_order : (run : List Act) (node k m : ℕ) → k < m → IsActOf run node k → IsActOf run node m → HappensBefore run k m
own_order run node k m lt (a, first) (b, second) = base (program lt first second)

module _ (run : List Act) (acting node position : ℕ) where
  abbrev IsBefore : Option ℕ → Type 0
  IsBefore before = MatchOption before ((m : ℕ) → m < position → IsActOf run acting m → ⊥) (IsActBefore run acting position)

  first_known : (before : Option ℕ) (k : ℕ) → IsBefore before → IsUnknownAt run k before
      → (m : ℕ) → IsActOf run acting m → m < position → HappensBefore run k m → ⊥
  first_known None k none unknown m acts lt h = none m lt acts
  first_known (Some b) k is unknown m acts lt h =
      elim (cases_eq m b) [
        | inl same ↦ unknown (subst (λ n. HappensBefore run k n) same h)
        | inr other ↦
            let le = is.last m lt acts in
            unknown (transitive h (own_order run acting m b (omega arith) acts is.acts))
      ]

  unknown_before : (before : Option ℕ) (k : ℕ) → IsBefore before
      → ((m : ℕ) → IsActOf run acting m → m < position → HappensBefore run k m → ⊥) → IsUnknownAt run k before
  unknown_before None k none first = tt
  unknown_before (Some b) k is first = λ h. first b is.acts is.earlier h

  pub behind-new : (before : Option ℕ) (k : ℕ) → MatchOption before ((m : ℕ) → m < position → IsActOf run acting m → ⊥) (IsActBefore run acting position)
      → IsNewBehind run node position before k → IsNew run acting node position k
  behind-new before k is new = record { acts = new.acts; known = new.known; first = first_known before k is new.unknown }

  pub new-behind : (before : Option ℕ) (k : ℕ) → MatchOption before ((m : ℕ) → m < position → IsActOf run acting m → ⊥) (IsActBefore run acting position)
      → IsNew run acting node position k → IsNewBehind run node position before k
  new-behind before k is new = record { acts = new.acts; known = new.known; unknown = unknown_before before k is new.first }
