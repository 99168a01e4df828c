-- Who waits at a barrier, one event further.
use Rattle.std.proofs.Common.{◌≡◌, ◌≢◌, ℕ, ◌+◌, List, inl, inr, refl, sym, subst, arith}
use Rattle.std.specs.Prelude.{Option, Some, None}
use Rattle.std.proofs.lemmas.Bool.{cases_eq}
use Rattle.lrc_races_trace.specs.declared.event.Event.{Event}
use Rattle.lrc_races_trace.specs.declared.event.Operation.TheVariants.{Arrive, Depart}
use Rattle.lrc_races_trace.specs.Trace.{At}
use Rattle.lrc_races_trace.specs.Formed.{IsAtBarrier, WaitsAt}
use Rattle.lrc_races_trace.proofs.Lasts.{last_kept, last_back, last_here, last_is}
use Rattle.lrc_races_detector.specs.declared.waits.Waiting.{Waiting}
use Rattle.lrc_races_detector.specs.declared.waits.Waits.{Waits}
use Rattle.lrc_races_trace.specs.declared.fault.Reason.TheVariants.{Waits as WaitsAtOne, NotArrived}
use Rattle.lrc_races_detector.specs.Waits.{waiting_of, IsWaitSet, IsWait, AreWaits, WaitsAlone, HasNoBarrierFault, IsBarrierFault}

module _ (events : List Event) (n : ℕ) (b : Event) (here : At events n b) where
  wait_back : (u x : ℕ) (a : Event) → (IsAtBarrier u x b → ⊥) → WaitsAt events (n + 1) u x a → WaitsAt events n u x a
  wait_back u x a fails new = record { last = last_back events n b here (IsAtBarrier u x) a fails new.last; arrives = new.arrives }

  wait_kept : (u : ℕ) → ((x : ℕ) → IsAtBarrier u x b → ⊥) → (w : Option Waiting) → IsWait events n u w → IsWait events (n + 1) u w
  wait_kept u fails (Some w) old = record {
    arrive = old.arrive;
    at = record { last = last_kept events n b here (IsAtBarrier u w.barrier) old.arrive (fails w.barrier) old.at.last; arrives = old.at.arrives };
    line = old.line;
    alone = λ x other at. old.alone x other (wait_back u x other (fails x) at);
  }
  wait_kept u fails None old = λ x a at. old x a (wait_back u x a (fails x) at)

  -- an event of another thread
  apart : (u x : ℕ) → u ≢ b.thread → IsAtBarrier u x b → ⊥
  apart u x other (is, at) = other (sym is)

  -- one at no barrier
  elsewhere : (u x : ℕ) → ((y : ℕ) → b.operation ≡ Arrive y → ⊥) → ((y : ℕ) → b.operation ≡ Depart y → ⊥) → IsAtBarrier u x b → ⊥
  elsewhere u x f g (is, at) = elim at [ inl arrives ↦ f x arrives | inr departs ↦ g x departs ]

  pub waits_kept : (waits : Waits) → ((y : ℕ) → b.operation ≡ Arrive y → ⊥) → ((y : ℕ) → b.operation ≡ Depart y → ⊥) → AreWaits events n waits
      → AreWaits events (n + 1) waits
  waits_kept waits f g old u = wait_kept u (λ x. elsewhere u x f g) (waiting_of waits u) (old u)

  waits_set : (waits after : Waits) (w : Option Waiting) → IsWaitSet waits after b.thread w → IsWait events (n + 1) b.thread w → AreWaits events n waits
      → AreWaits events (n + 1) after
  waits_set waits after w set is old u =
      elim (cases_eq u b.thread) [
        | inl same ↦
            subst (λ x. IsWait events (n + 1) x (waiting_of after x)) (sym same) (subst (IsWait events (n + 1) b.thread) (sym set.here) is)
        | inr other ↦
            subst (IsWait events (n + 1) u) (sym (set.others u other)) (wait_kept u (λ x. apart u x other) (waiting_of waits u) (old u))
      ]

  module _ (fine : HasNoBarrierFault events n b) (x : ℕ) where
    module _ (op : b.operation ≡ Arrive x) where
      away : (y : ℕ) → y ≢ x → IsAtBarrier b.thread y b → ⊥
      away y other (is, at) =
          elim at [
            | inl arrives ↦ let same : y ≡ x = cc in other same
            | inr departs ↦ let never : ⊥ = cc in never
          ]

      stays : (y : ℕ) → b.operation ≡ Depart y → ⊥
      stays y departs = let never : ⊥ = cc in never

      alone : (y : ℕ) (a : Event) → WaitsAt events (n + 1) b.thread y a → y ≡ x
      alone y a at =
          elim (cases_eq y x) [
            | inl same ↦ same
            | inr other ↦ absurd (fine.free y a.line (a, wait_back b.thread y a (away y other) at, refl, stays y))
          ]

      pub waits_arrived : (waits after : Waits) → IsWaitSet waits after b.thread (Some (record { barrier = x; line = b.line })) → AreWaits events n waits
          → AreWaits events (n + 1) after
      waits_arrived waits after set old = waits_set waits after (Some (record { barrier = x; line = b.line })) set (record {
        arrive = b;
        at = record { last = last_here events n b here (IsAtBarrier b.thread x) (refl, inl op); arrives = op };
        line = refl;
        alone = alone;
      }) old

    module _ (op : b.operation ≡ Depart x) where
      leaves : (y : ℕ) → y ≢ x → IsAtBarrier b.thread y b → ⊥
      leaves y other (is, at) =
          elim at [
            | inl arrives ↦ let never : ⊥ = cc in never
            | inr departs ↦ let same : y ≡ x = cc in other same
          ]

      none : (y : ℕ) (a : Event) → WaitsAt events (n + 1) b.thread y a → ⊥
      none y a at =
          elim (cases_eq y x) [
            | inl same ↦
                let is : a ≡ b = last_is events n b here (IsAtBarrier b.thread y) a (refl, inr (subst (λ z. b.operation ≡ Depart z) (sym same) op)) at.last in
                let arrives : b.operation ≡ Arrive y = subst (λ (e : Event). e.operation ≡ Arrive y) is at.arrives in
                let never : ⊥ = cc in
                never
            | inr other ↦
                fine.free y a.line (a, wait_back b.thread y a (leaves y other) at, refl, λ departs. let same : y ≡ x = cc in other same)
          ]

      pub waits_departed : (waits after : Waits) → IsWaitSet waits after b.thread None → AreWaits events n waits → AreWaits events (n + 1) after
      waits_departed waits after set old = waits_set waits after None set none old

-- what is wrong with an event of a thread that waits, and of one that does not
module _ (events : List Event) (n : ℕ) (b : Event) where
  module _ (w : Waiting) (waits : WaitsAlone events n b.thread w) where
    pub leaves_well : b.operation ≡ Depart w.barrier → HasNoBarrierFault events n b
    leaves_well op = record {
      free = λ y line (a, at, is, stays). stays (subst (λ z. b.operation ≡ Depart z) (sym (waits.alone y a at)) op);
      arrived = λ y (departs, none).
          let same : w.barrier ≡ y = cc in
          none waits.arrive (subst (λ z. WaitsAt events n b.thread z waits.arrive) same waits.at);
    }

    pub waits_still : (b.operation ≡ Depart w.barrier → ⊥) → IsBarrierFault events n b (WaitsAtOne w.barrier w.line)
    waits_still stays = record {
      holds = (waits.arrive, waits.at, waits.line, stays);
      least = omega arith;
      most = omega arith;
      first = λ y line h. omega arith;
    }

  module _ (none : IsWait events n b.thread None) where
    pub not_arrived : (x : ℕ) → b.operation ≡ Depart x → IsBarrierFault events n b (NotArrived x)
    not_arrived x op = record {
      holds = (op, none x);
      least = omega arith;
      most = omega arith;
      first = λ y line (a, at, is, stays). absurd (none y a at);
    }

    pub stays_out : ((x : ℕ) → b.operation ≡ Depart x → ⊥) → HasNoBarrierFault events n b
    stays_out stays = record {
      free = λ y line (a, at, is, other). none y a at;
      arrived = λ y (departs, never). stays y departs;
    }
