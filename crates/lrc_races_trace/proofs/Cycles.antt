-- The cycles of a barrier, one event further.
use Rattle.std.proofs.Common.{add-one, ◌≡◌, ℕ, zero, suc, ◌+◌, ◌≤◌, List, inl, inr, refl, ap, arith}
use Rattle.std.proofs.lemmas.Bool.{cases_eq}
use Rattle.std.specs.Prelude.{Option, Some, None, slice_get, true, false, ◌==◌, cond}
use Rattle.lrc_races_trace.specs.declared.event.Event.{Event}
use Rattle.lrc_races_trace.specs.declared.event.Operation.{Operation}
use Rattle.lrc_races_trace.specs.declared.event.Operation.TheVariants.{Read, Write, Acquire, Release, Post, Wait, Fork, Join, Arrive, Depart, Idle}
use Rattle.lrc_races_trace.specs.Trace.{At}
use Rattle.lrc_races_trace.specs.Cycles.{Cycles, cycles_before, no_cycles, after_event, after_operation, opened, arrived, departed}

pub cycles_before-none : (events : List Event) (x : ℕ) → cycles_before events x 0 ≡ no_cycles
unfolding cycles_before
cycles_before-none events x = refl

pub cycles_before-next : (events : List Event) (x n : ℕ) (e : Event) → At events n e
    → cycles_before events x (n + 1) ≡ after_operation x e.thread e.operation (cycles_before events x n)
unfolding cycles_before
cycles_before-next events x n e h = rw (add-one, h.is) refl

-- no more cycles are closed than there are events
opened-little : (o : Option ℕ) (number : ℕ) → opened o number ≤ number + 1
opened-little None number = omega arith
opened-little (Some cycle) number = elim (cycle == number) as (λ b. cond b (number + 1) number ≤ number + 1) [ true ↦ omega arith | false ↦ omega arith ]

after-little : (x t : ℕ) (o : Operation) (cycles : Cycles) → (after_operation x t o cycles).current ≤ cycles.current + 1
after-little x t (Arrive y) cycles =
    elim (y == x) as (λ b. (cond b (arrived t cycles) cycles).current ≤ cycles.current + 1) [ true ↦ omega arith | false ↦ omega arith ]
after-little x t (Depart y) cycles =
    elim (y == x) as (λ b. (cond b (departed t cycles) cycles).current ≤ cycles.current + 1) [
      | true ↦ opened-little (cycles.of t) cycles.current
      | false ↦ omega arith
    ]
after-little x t (Read v) cycles = omega arith
after-little x t (Write v) cycles = omega arith
after-little x t (Acquire v) cycles = omega arith
after-little x t (Release v) cycles = omega arith
after-little x t (Post v) cycles = omega arith
after-little x t (Wait v) cycles = omega arith
after-little x t (Fork v) cycles = omega arith
after-little x t (Join v) cycles = omega arith
after-little x t Idle cycles = omega arith

event-little : (x : ℕ) (o : Option Event) (cycles : Cycles) → (after_event x o cycles).current ≤ cycles.current + 1
event-little x None cycles = omega arith
event-little x (Some e) cycles = after-little x e.thread e.operation cycles

pub cycles_before-few : (events : List Event) (x n : ℕ) → (cycles_before events x n).current ≤ n
unfolding cycles_before
cycles_before-few events x zero = omega arith
cycles_before-few events x (suc n) =
    let one = event-little x (slice_get events n) (cycles_before events x n) in
    let few = cycles_before-few events x n in
    omega arith

-- nor is one opened again
opened-no_less : (o : Option ℕ) (number : ℕ) → number ≤ opened o number
opened-no_less None number = omega arith
opened-no_less (Some cycle) number = elim (cycle == number) as (λ b. number ≤ cond b (number + 1) number) [ true ↦ omega arith | false ↦ omega arith ]

after-no_less : (x t : ℕ) (o : Operation) (cycles : Cycles) → cycles.current ≤ (after_operation x t o cycles).current
after-no_less x t (Arrive y) cycles =
    elim (y == x) as (λ b. cycles.current ≤ (cond b (arrived t cycles) cycles).current) [ true ↦ omega arith | false ↦ omega arith ]
after-no_less x t (Depart y) cycles =
    elim (y == x) as (λ b. cycles.current ≤ (cond b (departed t cycles) cycles).current) [
      | true ↦ opened-no_less (cycles.of t) cycles.current
      | false ↦ omega arith
    ]
after-no_less x t (Read v) cycles = omega arith
after-no_less x t (Write v) cycles = omega arith
after-no_less x t (Acquire v) cycles = omega arith
after-no_less x t (Release v) cycles = omega arith
after-no_less x t (Post v) cycles = omega arith
after-no_less x t (Wait v) cycles = omega arith
after-no_less x t (Fork v) cycles = omega arith
after-no_less x t (Join v) cycles = omega arith
after-no_less x t Idle cycles = omega arith

event-no_less : (x : ℕ) (o : Option Event) (cycles : Cycles) → cycles.current ≤ (after_event x o cycles).current
event-no_less x None cycles = omega arith
event-no_less x (Some e) cycles = after-no_less x e.thread e.operation cycles

pub cycles_before-grows : (events : List Event) (x k n : ℕ) → k ≤ n → (cycles_before events x k).current ≤ (cycles_before events x n).current
unfolding cycles_before
cycles_before-grows events x k zero le =
    elim (cases_eq k zero) [
      | inl same ↦ let e = ap (λ m. (cycles_before events x m).current) same in omega arith
      | inr other ↦ omega arith
    ]
cycles_before-grows events x k (suc n) le =
    elim (cases_eq k (suc n)) [
      | inl same ↦ let e = ap (λ m. (cycles_before events x m).current) same in omega arith
      | inr other ↦
          let one = event-no_less x (slice_get events n) (cycles_before events x n) in
          let past = cycles_before-grows events x k n (omega arith) in
          omega arith
    ]
