-- The cycles of a barrier, one event further.
use Rattle.std.proofs.Common.{◌≡◌, ℕ, zero, suc, ◌+◌, ◌<◌, List, [], ◌∷◌, ◌++◌, length, inl, inr, refl, sym, subst, ◌∙◌, ap, arith}
use Rattle.std.specs.Prelude.{◌≢◌, Option, Some, None, slice_get}
use Rattle.std.proofs.lemmas.Bool.{cases_eq}
use Rattle.lrc_races_trace.specs.declared.event.Event.{Event}
use Rattle.lrc_races_trace.specs.declared.event.Operation.{Operation}
use Rattle.lrc_races_trace.specs.declared.event.Operation.TheVariants.{Read, Write, Acquire, Release, Post, Wait, Fork, Join, Arrive, Depart, Idle}
use Rattle.lrc_races_trace.specs.Trace.{At}
use Rattle.lrc_races_trace.specs.Cycles.{Cycles, cycles_before, after_operation, arrived, departed, opened}
use Rattle.lrc_races_trace.proofs.Positions.{At-one}
use Rattle.lrc_races_trace.proofs.Cycles.{cycles_before-none, cycles_before-next}
use Rattle.lrc_races_detector.specs.declared.barriers.Barrier.{Barrier}
use Rattle.lrc_races_detector.specs.Barriers.{SameBarrier, IsArrived, IsDeparted, cycle_of}
use Rattle.lrc_races_why.specs.Cycles.{cycle_in, IsCycles, AreCycles}

-- lists, one element further
pub get-front : {X : Type 0} (xs ys : List X) (k : ℕ) → k < length xs → slice_get (xs ++ ys) k ≡ slice_get xs k
get-front [] ys k h = absurd (omega arith)
get-front (x ∷ xs) ys zero h = refl
get-front (x ∷ xs) ys (suc k) h = get-front xs ys k (omega arith)

pub get-last : {X : Type 0} (xs : List X) (y : X) (k : ℕ) → k ≡ length xs → slice_get (xs ++ y ∷ []) k ≡ Some y
get-last [] y zero e = refl
get-last [] y (suc k) e = absurd (omega arith)
get-last (x ∷ xs) y zero e = absurd (omega arith)
get-last (x ∷ xs) y (suc k) e = get-last xs y k (omega arith)

-- before any event
pub Cycles-none : (events : List Event) (x : ℕ) → IsCycles events 0 x None
Cycles-none events x = record {
  current = ap (λ (c : Cycles). c.current) (sym (cycles_before-none events x));
  of = λ t. ap (λ (c : Cycles). c.of t) (sym (cycles_before-none events x));
}

module _ (events : List Event) (n : ℕ) (b : Event) (here : At events n b) where
  -- the barrier's cycles are as they were
  untouched : (x : ℕ) (o : Operation) (cycles : Cycles) → (o ≡ Arrive x → ⊥) → (o ≡ Depart x → ⊥) → after_operation x b.thread o cycles ≡ cycles
  untouched x (Arrive y) cycles f g =
      elim (cases_eq y x) [
        | inl same ↦ absurd (f (ap Arrive same))
        | inr other ↦ grind (arith, other)
      ]
  untouched x (Depart y) cycles f g =
      elim (cases_eq y x) [
        | inl same ↦ absurd (g (ap Depart same))
        | inr other ↦ grind (arith, other)
      ]
  untouched x (Read v) cycles f g = refl
  untouched x (Write v) cycles f g = refl
  untouched x (Acquire v) cycles f g = refl
  untouched x (Release v) cycles f g = refl
  untouched x (Post v) cycles f g = refl
  untouched x (Wait v) cycles f g = refl
  untouched x (Fork v) cycles f g = refl
  untouched x (Join v) cycles f g = refl
  untouched x Idle cycles f g = refl

  pub Cycles-kept : (x : ℕ) → (b.operation ≡ Arrive x → ⊥) → (b.operation ≡ Depart x → ⊥) → (old : Option Barrier)
      → IsCycles events n x old → IsCycles events (n + 1) x old
  Cycles-kept x f g old is =
      let next : cycles_before events x (n + 1) ≡ cycles_before events x n =
      cycles_before-next events x n b here ∙ untouched x b.operation (cycles_before events x n) f g in
      record {
        current = is.current ∙ ap (λ (c : Cycles). c.current) (sym next);
        of = λ t. is.of t ∙ ap (λ (c : Cycles). c.of t) (sym next);
      }

  pub Cycles-same : (x m : ℕ) (old new : Option Barrier) → SameBarrier new old → IsCycles events m x old → IsCycles events m x new
  Cycles-same x m old new same is = record {
    current = same.current ∙ is.current;
    of = λ t. same.of t ∙ is.of t;
  }

  after_arrive : (x : ℕ) (cycles : Cycles) → after_operation x b.thread (Arrive x) cycles ≡ arrived b.thread cycles
  after_arrive x cycles = grind arith

  after_depart : (x : ℕ) (cycles : Cycles) → after_operation x b.thread (Depart x) cycles ≡ departed b.thread cycles
  after_depart x cycles = grind arith

  arrived_of : (t : ℕ) (cycles : Cycles) → (arrived t cycles).of t ≡ Some cycles.current
  arrived_of t cycles = grind arith

  arrived_other : (t u : ℕ) (cycles : Cycles) → u ≢ t → (arrived t cycles).of u ≡ cycles.of u
  arrived_other t u cycles other = grind (arith, other)

  pub Cycles-arrived : (x : ℕ) → b.operation ≡ Arrive x → (old new : Option Barrier) (known : List ℕ) → IsArrived old new b.thread known
      → IsCycles events n x old → IsCycles events (n + 1) x new
  Cycles-arrived x op old new known a is =
      let before = cycles_before events x n in
      let next : cycles_before events x (n + 1) ≡ arrived b.thread before =
      cycles_before-next events x n b here ∙ ap (λ o. after_operation x b.thread o before) op ∙ after_arrive x before in
      record {
        current = a.current ∙ is.current ∙ ap (λ (c : Cycles). c.current) (sym next);
        of = λ t.
            elim (cases_eq t b.thread) [
              | inl same ↦ ap (λ u. cycle_of new u) same ∙ a.here ∙ ap Some is.current ∙ sym (arrived_of b.thread before)
                  ∙ ap (λ (c : Cycles). c.of b.thread) (sym next) ∙ ap (λ u. (cycles_before events x (n + 1)).of u) (sym same)
              | inr other ↦ a.others t other ∙ is.of t ∙ sym (arrived_other b.thread t before other) ∙ ap (λ (c : Cycles). c.of t) (sym next)
            ];
      }

  opened_own : (m : ℕ) → opened (Some m) m ≡ m + 1
  opened_own m = grind arith

  opened_not : (o : Option ℕ) (m : ℕ) → (o ≡ Some m → ⊥) → opened o m ≡ m
  opened_not None m not = refl
  opened_not (Some k) m not =
      elim (cases_eq k m) [
        | inl same ↦ absurd (not (ap Some same))
        | inr other ↦ grind (arith, other)
      ]

  pub Cycles-departed : (x : ℕ) → b.operation ≡ Depart x → (old new : Option Barrier) → IsDeparted old new b.thread
      → IsCycles events n x old → IsCycles events (n + 1) x new
  Cycles-departed x op old new d is =
      let before = cycles_before events x n in
      let next : cycles_before events x (n + 1) ≡ departed b.thread before =
      cycles_before-next events x n b here ∙ ap (λ o. after_operation x b.thread o before) op ∙ after_depart x before in
      elim d [
        | inl (own, closed) ↦
            let of_open : before.of b.thread ≡ Some before.current = sym (is.of b.thread) ∙ own ∙ ap Some is.current in
            record {
              current = closed.current ∙ ap (λ m. m + 1) is.current ∙ sym (opened_own before.current)
                  ∙ ap (λ o. opened o before.current) (sym of_open) ∙ ap (λ (c : Cycles). c.current) (sym next);
              of = λ t. closed.of t ∙ is.of t ∙ ap (λ (c : Cycles). c.of t) (sym next);
            }
        | inr (other, same) ↦
            let not : before.of b.thread ≡ Some before.current → ⊥ = λ e. other (is.of b.thread ∙ e ∙ ap Some (sym is.current)) in
            record {
              current = same.current ∙ is.current ∙ sym (opened_not (before.of b.thread) before.current not) ∙ ap (λ (c : Cycles). c.current) (sym next);
              of = λ t. same.of t ∙ is.of t ∙ ap (λ (c : Cycles). c.of t) (sym next);
            }
      ]

pub cycles-none : (events : List Event) (barriers : List Barrier) → barriers ≡ [] → AreCycles events 0 barriers
cycles-none events barriers none x = subst (λ (l : List Barrier). IsCycles events 0 x (slice_get l x)) (sym none) (Cycles-none events x)

-- the numbers of the events so far, and of the next one
pub number_pushed : (events : List Event) (n : ℕ) (numbers after : List (Option ℕ)) (b : Event) (number : Option ℕ) → At events n b
    → number ≡ cycle_in events n b.thread b.operation → length numbers ≡ n → after ≡ numbers ++ number ∷ []
    → ((k : ℕ) (a : Event) → k < n → At events k a → slice_get numbers k ≡ Some (cycle_in events k a.thread a.operation))
    → (k : ℕ) (a : Event) → k < n + 1 → At events k a → slice_get after k ≡ Some (cycle_in events k a.thread a.operation)
number_pushed events n numbers after b number here is long pushed old k a lt at =
    elim (cases_eq k n) [
      | inl same ↦
          let one : b ≡ a = At-one here (subst (λ (m : ℕ). At events m a) same at) in
          ap (λ l. slice_get l k) pushed ∙ get-last numbers number k (same ∙ sym long) ∙ ap Some is
          ∙ ap (λ (x : Event). Some (cycle_in events n x.thread x.operation)) one
          ∙ ap (λ (m : ℕ). Some (cycle_in events m a.thread a.operation)) (sym same)
      | inr other ↦ ap (λ l. slice_get l k) pushed ∙ get-front numbers (number ∷ []) k (omega arith) ∙ old k a (omega arith) at
    ]
