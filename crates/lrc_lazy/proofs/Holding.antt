-- Who holds a lock behind two neighbouring acts of different nodes that change places.
use Rattle.std.proofs.Common.{◌≡◌, ℕ, ◌+◌, ◌<◌, ◌≤◌, List, ◌++◌, length, inl, inr, subst, arith}
use Rattle.std.proofs.lemmas.Bool.{cases_lt}
use Rattle.lrc_trace.specs.declared.act.Act.{Act}
use Rattle.lrc_trace.specs.declared.act.Deed.TheVariants.{Acquire, Release}
use Rattle.lrc_trace.specs.Run.{Does}
use Rattle.lrc_trace.specs.Synchronization.{Holds}
use Rattle.lrc_trace.proofs.Positions.{Does-one_node}
use Rattle.lrc_trace.proofs.Prefixes.{Holds-longer, Holds-shorter}
use Rattle.lrc_lazy.specs.Swapped.{pair}
use Rattle.lrc_lazy.proofs.Moving.{moved, moved_back, moved_within, crossed, first_stands, second_stands, does_moved}

-- within the front
pub holds_front : (front more others : List Act) {p q l : ℕ} → p ≤ length front → Holds (front ++ more) p q l → Holds (front ++ others) p q l
holds_front front more others le h = Holds-longer front others le (Holds-shorter front more le h)

module _ (front : List Act) (first second : Act) (rest : List Act) (apart : first.node ≡ second.node → ⊥) where
  abbrev run : List Act
  run = pair front first second rest

  abbrev other : List Act
  other = pair front second first rest

  abbrev k : ℕ
  k = length front

  -- no node gets the lock by the one and gives it back by the other
  not_both : {q l i m : ℕ} → i ≡ k → m ≡ k + 1 → Does other i q (Acquire l) → Does other m q (Release l) → ⊥
  not_both {q} {l} {i} {m} e f got given =
      let a = Does-one_node (first_stands front second first rest) (subst (λ x. Does other x q (Acquire l)) e got) in
      let b = Does-one_node (second_stands front second first rest) (subst (λ x. Does other x q (Release l)) f given) in
      apart (let is : first.node ≡ second.node = omega (arith, a, b) in is)

  pub holds_far : {p q l : ℕ} → k + 1 < p → Holds run p q l → Holds other p q l
  holds_far {p} {q} {l} far h =
      let x = moved k h.since in
      record {
        since = x.0;
        earlier = moved_within x.1 far h.earlier;
        acquired = does_moved front first second rest x.1 h.acquired;
        kept = λ m after before given.
            let y = moved k m in
            let given' = does_moved front second first rest y.1 given in
            elim (cases_lt h.since y.0) [
              | inl lt ↦ h.kept y.0 lt (moved_within y.1 far before) given'
              | inr le ↦
                  let these = crossed (moved_back x.1) y.1 after le in
                  not_both these.0 these.1 (does_moved front first second rest x.1 h.acquired) given
            ];
      }
