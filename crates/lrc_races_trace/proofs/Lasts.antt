-- The last event that is so, one event further.
use Rattle.std.proofs.Common.{◌≡◌, ℕ, ◌+◌, List, inl, inr, subst, arith}
use Rattle.std.proofs.lemmas.Bool.{cases_eq}
use Rattle.lrc_races_trace.specs.declared.event.Event.{Event}
use Rattle.lrc_races_trace.specs.Trace.{At}
use Rattle.lrc_races_trace.specs.Formed.{IsLastBefore}
use Rattle.lrc_races_trace.proofs.Positions.{At-one}

module _ (events : List Event) (n : ℕ) (b : Event) (here : At events n b) where
  module _ (These : Event → Type 0) where
    same_at : (k : ℕ) (a : Event) → k ≡ n → At events k a → a ≡ b
    same_at k a same at = At-one (subst (λ m. At events m a) same at) here

    pub last_kept : (a : Event) → (These b → ⊥) → IsLastBefore events n These a → IsLastBefore events (n + 1) These a
    last_kept a fails old =
        let lt = old.before in
        record {
          position = old.position;
          before = omega arith;
          at = old.at;
          is = old.is;
          last = λ k other below at these.
              elim (cases_eq k n) [
                | inl same ↦ absurd (fails (subst These (same_at k other same at) these))
                | inr before ↦ old.last k other (omega arith) at these
              ];
        }

    pub last_back : (a : Event) → (These b → ⊥) → IsLastBefore events (n + 1) These a → IsLastBefore events n These a
    last_back a fails new =
        let lt = new.before in
        elim (cases_eq new.position n) [
          | inl same ↦ absurd (fails (subst These (same_at new.position a same new.at) new.is))
          | inr before ↦
              record {
                position = new.position;
                before = omega arith;
                at = new.at;
                is = new.is;
                last = λ k other below at these. new.last k other (omega arith) at these;
              }
        ]

    pub last_here : These b → IsLastBefore events (n + 1) These b
    last_here these = record {
      position = n;
      before = omega arith;
      at = here;
      is = these;
      last = λ k other below at is. omega arith;
    }

    pub last_is : (a : Event) → These b → IsLastBefore events (n + 1) These a → a ≡ b
    last_is a these new =
        let lt = new.before in
        let le = new.last n b (omega arith) here these in
        same_at new.position a (omega arith) new.at
