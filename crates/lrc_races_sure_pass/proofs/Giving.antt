-- What threads, locks and barriers keep, one event further.
use Rattle.std.proofs.Common.{◌≡◌, ◌≢◌, ℕ, ◌+◌, ◌<◌, List, get_or, inl, inr, refl, sym, subst, ◌∙◌, ap, arith}
use Rattle.std.specs.Prelude.{Option, Some, None}
use Rattle.std.proofs.lemmas.Bool.{cases_eq}
use Rattle.lrc_races_trace.specs.declared.event.Event.{Event}
use Rattle.lrc_races_trace.specs.declared.event.Operation.{Operation}
use Rattle.lrc_races_trace.specs.declared.event.Operation.TheVariants.{Read, Write, Acquire, Release, Post, Wait, Fork, Join, Arrive, Depart, Idle}
use Rattle.lrc_races_trace.specs.Trace.{At, given}
use Rattle.lrc_races_trace.specs.Cycles.{Cycles, cycles_before, after_operation, arrived, departed, opened}
use Rattle.lrc_races_trace.specs.Order.{program, fork, base, HappensBefore}
use Rattle.lrc_races_trace.proofs.Positions.{At-one}
use Rattle.lrc_races_trace.proofs.Cycles.{cycles_before-next, cycles_before-grows}
use Rattle.lrc_races_detector.specs.declared.clocks.Clocks.{Clocks}
use Rattle.lrc_races_detector.specs.declared.barriers.Barrier.{Barrier}
use Rattle.lrc_races_detector.specs.Barriers.{SameBarrier, IsArrived, IsClosed, IsDeparted, current_of, cycle_of, open_of, closed_of}
use Rattle.lrc_races_detector.specs.Clocks.{row, IsGained}
use Rattle.lrc_races_detector.specs.Knowing.{Before, OfThread, GivesLock, ArrivesIn}
use Rattle.lrc_races_sure_pass.specs.Knowing.{Gathers, AreThreads, AreLocks, IsBarrier, IsReached}
use Rattle.lrc_races_sure_pass.proofs.Gathering.{Gathers-none, Gathers-equal, next-same, next-joined, next-only}

module _ (events : List Event) (n : ℕ) (b : Event) (here : At events n b) where
  -- ---- threads

  thread_before : (k : ℕ) → k < n → OfThread events b.thread k → HappensBefore events k n
  thread_before k lt (a, at, inl same) = base (program lt at here same)
  thread_before k lt (a, at, inr forks) = base (fork lt at here forks)

  own_next : (x : List ℕ) → Gathers events (λ k. k ≡ n) x → Gathers events (Before (n + 1) (OfThread events b.thread)) x
  own_next x g = next-only events n (OfThread events b.thread) x (b, here, inl refl) thread_before g

  -- the event is of no other thread, and forks no other than it says
  not_other : (u : ℕ) → (u ≡ b.thread → ⊥) → (b.operation ≡ Fork u → ⊥) → OfThread events u n → ⊥
  not_other u apart unforked (a, at, inl same) = apart (sym same ∙ ap (λ (x : Event). x.thread) (At-one at here))
  not_other u apart unforked (a, at, inr forks) = unforked (sym (ap (λ (x : Event). x.operation) (At-one at here)) ∙ forks)

  module _ (threads : Clocks) (reached : IsReached events n b.thread threads) where
    pub threads_kept : ((u : ℕ) → b.operation ≡ Fork u → ⊥) → AreThreads events (n + 1) threads
    threads_kept unforked u =
        elim (cases_eq u b.thread) [
          | inl same ↦ subst (λ t. Gathers events (Before (n + 1) (OfThread events t)) (row threads t)) (sym same) (own_next (row threads b.thread) reached.own)
          | inr apart ↦ next-same events n (OfThread events u) (row threads u) (not_other u apart (unforked u)) (reached.others u apart)
        ]

    pub threads_forked : (w : ℕ) → b.operation ≡ Fork w → (after : Clocks) → IsGained threads after w (row threads b.thread)
        → AreThreads events (n + 1) after
    threads_forked w is after gained u =
        elim (cases_eq u w) [
          | inl at ↦
              subst (λ t. Gathers events (Before (n + 1) (OfThread events t)) (row after t)) (sym at) (elim (cases_eq w b.thread) [
                | inl itself ↦
                    subst (λ t. Gathers events (Before (n + 1) (OfThread events t)) (row after w)) (sym itself)
                    (own_next (row after w) (Gathers-equal events (λ k. k ≡ n) (row threads b.thread) (row after w)
                    (λ p.
                    let e = gained.here p in
                    let f : get_or (row threads w) p 0 ≡ get_or (row threads b.thread) p 0 = ap (λ t. get_or (row threads t) p 0) itself in
                    omega arith) reached.own))
                | inr apart ↦
                    next-joined events n (OfThread events w) (row threads w) (row threads b.thread) (row after w)
                    (b, here, inr is) (reached.others w apart) reached.own gained.here
              ])
          | inr other ↦
              subst (λ x. Gathers events (Before (n + 1) (OfThread events u)) x) (sym (gained.others u other)) (elim (cases_eq u b.thread) [
                | inl same ↦ subst (λ t. Gathers events (Before (n + 1) (OfThread events t)) (row threads t)) (sym same) (own_next (row threads b.thread) reached.own)
                | inr apart ↦ next-same events n (OfThread events u) (row threads u)
                    (not_other u apart (λ forks. let same : u ≡ w = cc in other same)) (reached.others u apart)
              ])
        ]

  -- ---- locks

  not_given : (l : ℕ) → (given b.operation ≡ Some l → ⊥) → GivesLock events l n → ⊥
  not_given l none (a, at, gives) = none (sym (ap (λ (x : Event). given x.operation) (At-one at here)) ∙ gives)

  pub locks_kept : (locks : Clocks) → ((l : ℕ) → given b.operation ≡ Some l → ⊥) → AreLocks events n locks → AreLocks events (n + 1) locks
  locks_kept locks none old l = next-same events n (GivesLock events l) (row locks l) (not_given l (none l)) (old l)

  pub locks_given : (l : ℕ) → given b.operation ≡ Some l → (locks after : Clocks) (known : List ℕ) → Gathers events (λ k. k ≡ n) known
      → IsGained locks after l known → AreLocks events n locks → AreLocks events (n + 1) after
  locks_given l is locks after known g gained old m =
      elim (cases_eq m l) [
        | inl same ↦ subst (λ x. Gathers events (Before (n + 1) (GivesLock events x)) (row after x)) (sym same)
            (next-joined events n (GivesLock events l) (row locks l) known (row after l) (b, here, is) (old l) g gained.here)
        | inr other ↦ subst (λ x. Gathers events (Before (n + 1) (GivesLock events m)) x) (sym (gained.others m other))
            (next-same events n (GivesLock events m) (row locks m) (not_given m (λ e. let same : m ≡ l = cc in other same)) (old m))
      ]

  -- ---- barriers

  not_arrived : (x c : ℕ) → (b.operation ≡ Arrive x → ⊥) → ArrivesIn events x c n → ⊥
  not_arrived x c none (a, at, arrives, is) = none (sym (ap (λ (y : Event). y.operation) (At-one at here)) ∙ arrives)

  open_kept : (x : ℕ) → (b.operation ≡ Arrive x → ⊥) → (old : Option Barrier) → IsBarrier events n x old
      → Gathers events (Before (n + 1) (ArrivesIn events x (current_of old))) (open_of old)
  open_kept x none old is = next-same events n (ArrivesIn events x (current_of old)) (open_of old) (not_arrived x (current_of old) none) is.arrived

  closed_kept : (x : ℕ) → (b.operation ≡ Arrive x → ⊥) → (old new : Option Barrier) (t c : ℕ) → cycle_of old t ≡ Some c → c ≢ current_of old
      → closed_of new t ≡ closed_of old t → IsBarrier events n x old → Gathers events (Before (n + 1) (ArrivesIn events x c)) (closed_of new t)
  closed_kept x none old new t c of apart same is =
      subst (λ r. Gathers events (Before (n + 1) (ArrivesIn events x c)) r) (sym same)
      (next-same events n (ArrivesIn events x c) (closed_of old t) (not_arrived x c none) (is.closed t c of apart))

  -- the open cycle is the same, and each thread's
  barrier_same : (x : ℕ) → (b.operation ≡ Arrive x → ⊥) → (old new : Option Barrier) → SameBarrier new old → IsBarrier events n x old
      → (cycles_before events x n).current ≡ (cycles_before events x (n + 1)).current
      → ((t : ℕ) → (cycles_before events x n).of t ≡ (cycles_before events x (n + 1)).of t) → IsBarrier events (n + 1) x new
  barrier_same x none old new same is current of = record {
    current = same.current ∙ is.current ∙ current;
    of = λ t. same.of t ∙ is.of t ∙ of t;
    arrived = subst (λ c. Gathers events (Before (n + 1) (ArrivesIn events x c)) (open_of new)) (sym same.current)
        (subst (λ r. Gathers events (Before (n + 1) (ArrivesIn events x (current_of old))) r) (sym same.arrived) (open_kept x none old is));
    closed = λ t c is_of apart. closed_kept x none old new t c (sym (same.of t) ∙ is_of) (λ e. apart (e ∙ sym same.current)) (same.closed t) is;
  }

  -- the barrier's cycles are as they were
  untouched : (x : ℕ) (o : Operation) (cycles : Cycles) → (o ≡ Arrive x → ⊥) → (o ≡ Depart x → ⊥) → after_operation x b.thread o cycles ≡ cycles
  untouched x (Arrive y) cycles f g =
      elim (cases_eq y x) [
        | inl same ↦ absurd (f (ap Arrive same))
        | inr other ↦ grind (arith, other)
      ]
  untouched x (Depart y) cycles f g =
      elim (cases_eq y x) [
        | inl same ↦ absurd (g (ap Depart same))
        | inr other ↦ grind (arith, other)
      ]
  untouched x (Read v) cycles f g = refl
  untouched x (Write v) cycles f g = refl
  untouched x (Acquire v) cycles f g = refl
  untouched x (Release v) cycles f g = refl
  untouched x (Post v) cycles f g = refl
  untouched x (Wait v) cycles f g = refl
  untouched x (Fork v) cycles f g = refl
  untouched x (Join v) cycles f g = refl
  untouched x Idle cycles f g = refl

  pub barrier_kept : (x : ℕ) → (b.operation ≡ Arrive x → ⊥) → (b.operation ≡ Depart x → ⊥) → (old new : Option Barrier) → SameBarrier new old
      → IsBarrier events n x old → IsBarrier events (n + 1) x new
  barrier_kept x f g old new same is =
      let next : cycles_before events x (n + 1) ≡ cycles_before events x n =
      cycles_before-next events x n b here ∙ untouched x b.operation (cycles_before events x n) f g in
      barrier_same x f old new same is (ap (λ (c : Cycles). c.current) (sym next)) (λ t. ap (λ (c : Cycles). c.of t) (sym next))

  after_arrive : (x : ℕ) (cycles : Cycles) → after_operation x b.thread (Arrive x) cycles ≡ arrived b.thread cycles
  after_arrive x cycles = grind arith

  after_depart : (x : ℕ) (cycles : Cycles) → after_operation x b.thread (Depart x) cycles ≡ departed b.thread cycles
  after_depart x cycles = grind arith

  arrived_of : (t : ℕ) (cycles : Cycles) → (arrived t cycles).of t ≡ Some cycles.current
  arrived_of t cycles = grind arith

  arrived_other : (t u : ℕ) (cycles : Cycles) → u ≢ t → (arrived t cycles).of u ≡ cycles.of u
  arrived_other t u cycles other = grind (arith, other)

  pub barrier_arrived : (x : ℕ) → b.operation ≡ Arrive x → (old new : Option Barrier) (known : List ℕ) → Gathers events (λ k. k ≡ n) known
      → IsArrived old new b.thread known → IsBarrier events n x old → IsBarrier events (n + 1) x new
  barrier_arrived x op old new known g a is =
      let before = cycles_before events x n in
      let next : cycles_before events x (n + 1) ≡ arrived b.thread before =
      cycles_before-next events x n b here ∙ ap (λ o. after_operation x b.thread o before) op ∙ after_arrive x before in
      record {
        current = a.current ∙ is.current ∙ ap (λ (c : Cycles). c.current) (sym next);
        of = λ t.
            elim (cases_eq t b.thread) [
              | inl same ↦ ap (λ u. cycle_of new u) same ∙ a.here ∙ ap Some is.current ∙ sym (arrived_of b.thread before)
                  ∙ ap (λ (c : Cycles). c.of b.thread) (sym next) ∙ ap (λ u. (cycles_before events x (n + 1)).of u) (sym same)
              | inr other ↦ a.others t other ∙ is.of t ∙ sym (arrived_other b.thread t before other) ∙ ap (λ (c : Cycles). c.of t) (sym next)
            ];
        arrived = subst (λ c. Gathers events (Before (n + 1) (ArrivesIn events x c)) (open_of new)) (sym a.current)
            (next-joined events n (ArrivesIn events x (current_of old)) (open_of old) known (open_of new) (b, here, op, sym is.current)
            is.arrived g a.joined);
        closed = λ t c of apart.
            elim (cases_eq t b.thread) [
              | inl same ↦
                  let own : cycle_of new t ≡ Some (current_of old) = ap (λ u. cycle_of new u) same ∙ a.here in
                  let one : c ≡ current_of old = cc in
                  absurd (apart (one ∙ sym a.current))
              | inr other ↦
                  subst (λ r. Gathers events (Before (n + 1) (ArrivesIn events x c)) r) (sym (a.closed t))
                  (next-same events n (ArrivesIn events x c) (closed_of old t)
                  (λ (d, at, arrives, in_cycle). apart (sym in_cycle ∙ sym is.current ∙ sym a.current))
                  (is.closed t c (sym (a.others t other) ∙ of) (λ e. apart (e ∙ sym a.current))))
            ];
      }

  opened_own : (m : ℕ) → opened (Some m) m ≡ m + 1
  opened_own m = grind arith

  opened_same : (o : Option ℕ) (m : ℕ) → o ≡ Some m → opened o m ≡ m + 1
  opened_same o m same = ap (λ p. opened p m) same ∙ opened_own m

  opened_other : (o : Option ℕ) (m : ℕ) → (o ≡ Some m → ⊥) → opened o m ≡ m
  opened_other None m other = refl
  opened_other (Some c) m other =
      elim (cases_eq c m) [
        | inl same ↦ absurd (other (ap Some same))
        | inr apart ↦ grind (arith, apart)
      ]

  -- the open cycle is closed
  barrier_closed : (x : ℕ) → b.operation ≡ Depart x → (old new : Option Barrier) → cycle_of old b.thread ≡ Some (current_of old) → IsClosed old new
      → IsBarrier events n x old → cycles_before events x (n + 1) ≡ departed b.thread (cycles_before events x n) → IsBarrier events (n + 1) x new
  barrier_closed x op old new own d is next =
      let before = cycles_before events x n in
      let none : b.operation ≡ Arrive x → ⊥ = λ arrives. let never : ⊥ = cc in never in
      let of_open : before.of b.thread ≡ Some before.current = sym (is.of b.thread) ∙ own ∙ ap Some is.current in
      record {
        current = d.current ∙ ap (λ m. m + 1) is.current ∙ sym (opened_same (before.of b.thread) before.current of_open)
            ∙ ap (λ (c : Cycles). c.current) (sym next);
        of = λ t. d.of t ∙ is.of t ∙ ap (λ (c : Cycles). c.of t) (sym next);
        arrived = subst (λ r. Gathers events (Before (n + 1) (ArrivesIn events x (current_of new))) r) (sym d.arrived)
            (Gathers-none events (Before (n + 1) (ArrivesIn events x (current_of new)))
            (λ k (lt, (a, at, arrives, in_cycle)).
            let few = cycles_before-grows events x k n (omega arith) in
            let one = d.current in
            let two = is.current in
            omega arith));
        closed = λ t c of apart.
            let was : cycle_of old t ≡ Some c = sym (d.of t) ∙ of in
            elim (cases_eq c (current_of old)) [
              | inl now ↦
                  subst (λ r. Gathers events (Before (n + 1) (ArrivesIn events x c)) r) (sym (d.here t (was ∙ ap Some now)))
                  (subst (λ m. Gathers events (Before (n + 1) (ArrivesIn events x m)) (open_of old)) (sym now) (open_kept x none old is))
              | inr other ↦
                  closed_kept x none old new t c was other (d.others t (λ e. let same : c ≡ current_of old = cc in other same)) is
            ];
      }

  pub barrier_departed : (x : ℕ) → b.operation ≡ Depart x → (old new : Option Barrier) → IsDeparted old new b.thread → IsBarrier events n x old
      → IsBarrier events (n + 1) x new
  barrier_departed x op old new d is =
      let before = cycles_before events x n in
      let next : cycles_before events x (n + 1) ≡ departed b.thread before =
      cycles_before-next events x n b here ∙ ap (λ o. after_operation x b.thread o before) op ∙ after_depart x before in
      elim d [
        | inl (own, closed) ↦ barrier_closed x op old new own closed is next
        | inr (other, same) ↦
            barrier_same x (λ arrives. let never : ⊥ = cc in never) old new same is
            (sym (opened_other (before.of b.thread) before.current (λ e. other (is.of b.thread ∙ e ∙ ap Some (sym is.current))))
            ∙ ap (λ (c : Cycles). c.current) (sym next))
            (λ t. ap (λ (c : Cycles). c.of t) (sym next))
      ]
