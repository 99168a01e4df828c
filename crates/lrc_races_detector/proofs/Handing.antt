-- What an event gets is what comes right before it.
use Rattle.std.proofs.Common.{◌≡◌, ◌≢◌, ℕ, ◌+◌, ◌<◌, ◌/◌, ◌⊎◌, List, get_or, inl, inr, refl, sym, subst, ◌∙◌, ap, arith}
use Rattle.std.proofs.lemmas.Bool.{cases_eq}
use Rattle.std.specs.Prelude.{Option, Some, None, slice_get}
use Rattle.lrc_races_trace.specs.declared.event.Event.{Event}
use Rattle.lrc_races_trace.specs.declared.event.Operation.{Operation}
use Rattle.lrc_races_trace.specs.declared.event.Operation.TheVariants.{Read, Write, Acquire, Release, Post, Wait, Fork, Join, Arrive, Depart, Idle}
use Rattle.lrc_races_trace.specs.Trace.{At, got}
use Rattle.lrc_races_trace.specs.Cycles.{cycles_before}
use Rattle.lrc_races_trace.specs.Order.{Precedes, program, lock, fork, join, fork_join, barrier}
use Rattle.lrc_races_trace.proofs.Positions.{At-one}
use Rattle.lrc_races_detector.specs.declared.clocks.Clocks.{Clocks}
use Rattle.lrc_races_detector.specs.declared.barriers.Barrier.{Barrier}
use Rattle.lrc_races_detector.specs.declared.barriers.Barriers.{Barriers}
use Rattle.lrc_races_detector.specs.Barriers.{current_of, cycle_of, open_of, closed_of, known_by}
use Rattle.lrc_races_detector.specs.Clocks.{row, IsGained, IsLevelled, IsMarked}
use Rattle.lrc_races_detector.specs.Knowing.{Gathers, Before, OfThread, GivesLock, ArrivesIn, AreThreads, AreLocks, IsBarrier, AreBarriers, IsReached, Handed, handed}
use Rattle.lrc_races_detector.proofs.Gathering.{Gathers-none, Gathers-same, Gathers-joined, Gathers-here, Gathers-levelled}
use Rattle.lrc_races_detector.proofs.Levelling.{gained_own}

module _ (events : List Event) (n : ℕ) where
  -- ---- what comes right before is handed

  got_handed : (t l k : ℕ) (o : Operation) → got o ≡ Some l → Before n (GivesLock events l) k → Handed events n t o k
  got_handed t l k (Acquire m) e h = let same : l ≡ m = cc in subst (λ x. Before n (GivesLock events x) k) same h
  got_handed t l k (Wait m) e h = let same : l ≡ m = cc in subst (λ x. Before n (GivesLock events x) k) same h
  got_handed t l k (Read v) e h = let never : ⊥ = cc in absurd never
  got_handed t l k (Write v) e h = let never : ⊥ = cc in absurd never
  got_handed t l k (Release v) e h = let never : ⊥ = cc in absurd never
  got_handed t l k (Post v) e h = let never : ⊥ = cc in absurd never
  got_handed t l k (Fork v) e h = let never : ⊥ = cc in absurd never
  got_handed t l k (Join v) e h = let never : ⊥ = cc in absurd never
  got_handed t l k (Arrive v) e h = let never : ⊥ = cc in absurd never
  got_handed t l k (Depart v) e h = let never : ⊥ = cc in absurd never
  got_handed t l k Idle e h = let never : ⊥ = cc in absurd never

  handed_as : (t k : ℕ) (o p : Operation) → p ≡ o → Handed events n t o k → Handed events n t p k
  handed_as t k o p e h = subst (λ x. Handed events n t x k) (sym e) h

  pub precedes_handed : (k : ℕ) (b : Event) → At events n b → Precedes events k n
      → Before n (OfThread events b.thread) k ⊎ Handed events n b.thread b.operation k
  precedes_handed k b here (program {a = a} {b = c} lt at there same) =
      inl (lt, (a, at, inl (same ∙ ap (λ (x : Event). x.thread) (At-one there here))))
  precedes_handed k b here (lock {l = l} {a = a} {b = c} lt at there gives gets) =
      inr (got_handed b.thread l k b.operation (sym (ap (λ (x : Event). got x.operation) (At-one there here)) ∙ gets) (lt, (a, at, gives)))
  precedes_handed k b here (fork {a = a} {b = c} lt at there forks) =
      inl (lt, (a, at, inr (forks ∙ ap (λ (x : Event). Fork x.thread) (At-one there here))))
  precedes_handed k b here (join {a = a} {b = c} lt at there joins) =
      inr (handed_as b.thread k (Join a.thread) b.operation (sym (ap (λ (x : Event). x.operation) (At-one there here)) ∙ joins) (lt, (a, at, inl refl)))
  precedes_handed k b here (fork_join {u = u} {a = a} {b = c} lt at there forks joins) =
      inr (handed_as b.thread k (Join u) b.operation (sym (ap (λ (x : Event). x.operation) (At-one there here)) ∙ joins) (lt, (a, at, inr forks)))
  precedes_handed k b here (barrier {x = x} {a = a} {b = c} lt at there arrives departs cycle) =
      inr (handed_as b.thread k (Depart x) b.operation (sym (ap (λ (y : Event). y.operation) (At-one there here)) ∙ departs) (
        (cycles_before events x k).current,
        ap (λ (y : Event). (cycles_before events x n).of y.thread) (sym (At-one there here)) ∙ cycle,
        (lt, (a, at, arrives, refl)),
      ))

  -- ---- what is handed comes right before

  pub thread_precedes : (k : ℕ) (b : Event) → At events n b → Before n (OfThread events b.thread) k → Precedes events k n
  thread_precedes k b here (lt, (a, at, inl same)) = program lt at here same
  thread_precedes k b here (lt, (a, at, inr forks)) = fork lt at here forks

  pub handed_by : (k : ℕ) (b : Event) → At events n b → (o : Operation) → b.operation ≡ o → Handed events n b.thread o k → Precedes events k n
  handed_by k b here (Acquire l) e (lt, (a, at, gives)) = lock lt at here gives (ap got e)
  handed_by k b here (Wait l) e (lt, (a, at, gives)) = lock lt at here gives (ap got e)
  handed_by k b here (Join u) e (lt, (a, at, inl same)) = join lt at here (e ∙ ap Join (sym same))
  handed_by k b here (Join u) e (lt, (a, at, inr forks)) = fork_join lt at here forks e
  handed_by k b here (Depart x) e (cycle, is, (lt, (a, at, arrives, in_cycle))) = barrier lt at here arrives e (is ∙ ap Some (sym in_cycle))
  handed_by k b here (Read v) e h = absurd h
  handed_by k b here (Write v) e h = absurd h
  handed_by k b here (Release v) e h = absurd h
  handed_by k b here (Post v) e h = absurd h
  handed_by k b here (Fork v) e h = absurd h
  handed_by k b here (Arrive v) e h = absurd h
  handed_by k b here Idle e h = absurd h

  -- ---- the row that is handed

  pub known_open : (kept : Option Barrier) (t c : ℕ) → c ≡ current_of kept → known_by kept t (Some c) ≡ open_of kept
  known_open kept t c same = grind (arith, same)

  pub known_closed : (kept : Option Barrier) (t c : ℕ) → c ≢ current_of kept → known_by kept t (Some c) ≡ closed_of kept t
  known_closed kept t c other = grind (arith, other)

  cycle_gathers : (x t c : ℕ) (kept : Option Barrier) → IsBarrier events n x kept → cycle_of kept t ≡ Some c
      → Gathers events (Before n (ArrivesIn events x c)) (known_by kept t (Some c))
  cycle_gathers x t c kept is e =
      elim (cases_eq c (current_of kept)) [
        | inl same ↦
            subst (λ r. Gathers events (Before n (ArrivesIn events x c)) r) (sym (known_open kept t c same))
            (subst (λ d. Gathers events (Before n (ArrivesIn events x d)) (open_of kept)) (sym same) is.arrived)
        | inr other ↦
            subst (λ r. Gathers events (Before n (ArrivesIn events x c)) r) (sym (known_closed kept t c other)) (is.closed t c e other)
      ]

  known_gathers : (x t : ℕ) (kept : Option Barrier) → IsBarrier events n x kept → (cycle : Option ℕ) → (cycles_before events x n).of t ≡ cycle
      → Gathers events (Handed events n t (Depart x)) (known_by kept t cycle)
  known_gathers x t kept is None e = Gathers-none events (Handed events n t (Depart x)) (λ k (c, at, h). let never : ⊥ = cc in never)
  known_gathers x t kept is (Some c) e =
      Gathers-same events (Before n (ArrivesIn events x c)) (Handed events n t (Depart x)) (known_by kept t (Some c))
      (λ k h. (c, e, h))
      (λ k (d, at, h). let same : d ≡ c = cc in subst (λ y. Before n (ArrivesIn events x y) k) same h) (cycle_gathers x t c kept is (is.of t ∙ e))

  module _ (threads locks : Clocks) (barriers : Barriers) (are_threads : AreThreads events n threads) (are_locks : AreLocks events n locks)
      (are_barriers : AreBarriers events n barriers) where
    handed_gathers : (t : ℕ) (o : Operation) → Gathers events (Handed events n t o) (handed threads locks barriers t o)
    handed_gathers t (Acquire l) = are_locks l
    handed_gathers t (Wait l) = are_locks l
    handed_gathers t (Join u) = are_threads u
    handed_gathers t (Depart x) =
        let is = are_barriers x in
        known_gathers x t (slice_get barriers.barriers.items x) is (cycle_of (slice_get barriers.barriers.items x) t) (sym (is.of t))
    handed_gathers t (Read v) = Gathers-none events (λ k. ⊥) (λ k h. h)
    handed_gathers t (Write v) = Gathers-none events (λ k. ⊥) (λ k h. h)
    handed_gathers t (Release v) = Gathers-none events (λ k. ⊥) (λ k h. h)
    handed_gathers t (Post v) = Gathers-none events (λ k. ⊥) (λ k h. h)
    handed_gathers t (Fork v) = Gathers-none events (λ k. ⊥) (λ k h. h)
    handed_gathers t (Arrive v) = Gathers-none events (λ k. ⊥) (λ k h. h)
    handed_gathers t Idle = Gathers-none events (λ k. ⊥) (λ k h. h)

    -- each thread knows of its own events
    own_known : (between : Clocks) (t : ℕ) (known : List ℕ) → IsGained threads between t known → (i : ℕ) (a : Event)
        → At events i a → i < n
        → i < get_or (row between a.thread) a.thread 0
    own_known between t known gained i a at lt =
        let below = (are_threads a.thread).complete i i a at (lt, (a, at, inl refl)) (inl refl) in
        let le = gained_own threads between t known gained a.thread in
        omega (arith, below, le)

    pub received : (b : Event) → At events n b → (between levelled after : Clocks)
        → IsGained threads between b.thread (handed threads locks barriers b.thread b.operation)
        → (chunk : ℕ) → IsLevelled between levelled b.thread chunk n → IsMarked levelled after b.thread (n + 1)
        → IsReached events n b.thread after
    received b here between levelled after gained chunk level marked = record {
      own = Gathers-here events n b (row levelled b.thread) (row after b.thread) here
          (Gathers-levelled events (λ k. Precedes events k n) (λ t. t / 128 ≡ chunk) (row between b.thread)
          (row levelled b.thread)
          (λ t. get_or (row between t) t 0) n level.here
          (own_known between b.thread (handed threads locks barriers b.thread b.operation) gained)
          (Gathers-same events (λ k. Before n (OfThread events b.thread) k ⊎ Handed events n b.thread b.operation k) (λ k. Precedes events k n)
          (row between b.thread)
          (λ k h. elim h [ inl own ↦ thread_precedes k b here own | inr more ↦ handed_by k b here b.operation refl more ])
          (λ k p. precedes_handed k b here p)
          (Gathers-joined events (Before n (OfThread events b.thread)) (Handed events n b.thread b.operation) (row threads b.thread)
          (handed threads locks barriers b.thread b.operation) (row between b.thread) (are_threads b.thread)
          (handed_gathers b.thread b.operation) gained.here))) marked.here;
      others = λ u apart.
          subst (λ x. Gathers events (Before n (OfThread events u)) x)
          (sym (marked.others u apart ∙ level.others u apart ∙ gained.others u apart))
          (are_threads u);
    }
