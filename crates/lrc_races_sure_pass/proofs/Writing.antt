-- What is kept of the last writes, one event further.
use Rattle.std.proofs.Common.{◌≡◌, ℕ, ◌+◌, List, inl, inr, sym, subst, arith}
use Rattle.std.proofs.lemmas.Bool.{cases_eq}
use Rattle.lrc_races_trace.specs.declared.event.Event.{Event}
use Rattle.lrc_races_trace.specs.Trace.{At, Writes}
use Rattle.lrc_races_trace.proofs.Positions.{At-one}
use Rattle.lrc_races_sure.specs.Leading.{IsLastWrite}
use Rattle.lrc_races_detector.specs.declared.clocks.Clocks.{Clocks}
use Rattle.lrc_races_detector.specs.Clocks.{row, IsReplaced}
use Rattle.lrc_races_sure_pass.specs.Knowing.{Gathers, AreWrites}
use Rattle.lrc_races_sure_pass.proofs.Gathering.{Gathers-same}

module _ (events : List Event) (n : ℕ) (b : Event) (here : At events n b) where
  last_kept : (v k : ℕ) → (Writes b v → ⊥) → IsLastWrite events k n v → IsLastWrite events k (n + 1) v
  last_kept v k none old =
      let lt = old.before in
      record {
        write = old.write;
        before = omega arith;
        at = old.at;
        writes = old.writes;
        last = λ m c below there writes.
            elim (cases_eq m n) [
              | inl same ↦ absurd (none (subst (λ (x : Event). Writes x v) (At-one (subst (λ p. At events p c) same there) here) writes))
              | inr other ↦ old.last m c (omega arith) there writes
            ];
      }

  last_back : (v k : ℕ) → (Writes b v → ⊥) → IsLastWrite events k (n + 1) v → IsLastWrite events k n v
  last_back v k none new =
      let lt = new.before in
      elim (cases_eq k n) [
        | inl same ↦ absurd (none (subst (λ (x : Event). Writes x v) (At-one (subst (λ p. At events p new.write) same new.at) here) new.writes))
        | inr other ↦ record {
          write = new.write;
          before = omega arith;
          at = new.at;
          writes = new.writes;
          last = λ m c below there writes. new.last m c (omega arith) there writes;
        }
      ]

  last_here : (v : ℕ) → Writes b v → (k : ℕ) → k ≡ n → IsLastWrite events k (n + 1) v
  last_here v writes k same =
      subst (λ p. IsLastWrite events p (n + 1) v) (sym same) (record {
        write = b;
        before = omega arith;
        at = here;
        writes = writes;
        last = λ m c below there other. omega arith;
      })

  last_is : (v k : ℕ) → Writes b v → IsLastWrite events k (n + 1) v → k ≡ n
  last_is v k writes new = let lt = new.before in let le = new.last n b (omega arith) here writes in omega arith

  kept : (writes : Clocks) (v : ℕ) → (Writes b v → ⊥) → Gathers events (λ k. IsLastWrite events k n v) (row writes v)
      → Gathers events (λ k. IsLastWrite events k (n + 1) v) (row writes v)
  kept writes v none g =
      Gathers-same events (λ k. IsLastWrite events k n v) (λ k. IsLastWrite events k (n + 1) v) (row writes v)
      (λ k h. last_kept v k none h) (λ k h. last_back v k none h) g

  pub writes_kept : (writes : Clocks) → ((v : ℕ) → Writes b v → ⊥) → AreWrites events n writes → AreWrites events (n + 1) writes
  writes_kept writes none old v = kept writes v (none v) (old v)

  pub writes_given : (v : ℕ) → Writes b v → (writes after : Clocks) (known : List ℕ) → Gathers events (λ k. k ≡ n) known
      → IsReplaced writes after v known → AreWrites events n writes → AreWrites events (n + 1) after
  writes_given v is writes after known g replaced old w =
      elim (cases_eq w v) [
        | inl same ↦
            subst (λ x. Gathers events (λ k. IsLastWrite events k (n + 1) x) (row after x)) (sym same)
            (subst (λ r. Gathers events (λ k. IsLastWrite events k (n + 1) v) r) (sym replaced.here)
            (Gathers-same events (λ k. k ≡ n) (λ k. IsLastWrite events k (n + 1) v) known
            (λ k e. last_here v is k e) (λ k h. last_is v k is h) g))
        | inr other ↦
            subst (λ r. Gathers events (λ k. IsLastWrite events k (n + 1) w) r) (sym (replaced.others w other))
            (kept writes w (λ wrote. let same : w ≡ v = cc in other same) (old w))
      ]
