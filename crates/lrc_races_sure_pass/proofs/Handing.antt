-- What an event gets leads to it.
use Rattle.std.proofs.Common.{◌≡◌, ℕ, ◌+◌, ◌<◌, ◌/◌, ◌⊎◌, List, get_or, inl, inr, refl, sym, subst, ◌∙◌, ap, arith}
use Rattle.std.proofs.lemmas.Bool.{cases_eq}
use Rattle.std.specs.Prelude.{Option, Some, None, slice_get}
use Rattle.lrc_races_trace.specs.declared.event.Event.{Event}
use Rattle.lrc_races_trace.specs.declared.event.Operation.{Operation}
use Rattle.lrc_races_trace.specs.declared.event.Operation.TheVariants.{Read, Write, Acquire, Release, Post, Wait, Fork, Join, Arrive, Depart, Idle}
use Rattle.lrc_races_trace.specs.Trace.{At}
use Rattle.lrc_races_trace.specs.Cycles.{cycles_before}
use Rattle.lrc_races_trace.specs.Order.{Precedes}
use Rattle.lrc_races_trace.proofs.Positions.{At-one}
use Rattle.lrc_races_sure.specs.Leading.{LeadsOn, ordered, read}
use Rattle.lrc_races_detector.specs.declared.clocks.Clocks.{Clocks}
use Rattle.lrc_races_detector.specs.declared.barriers.Barrier.{Barrier}
use Rattle.lrc_races_detector.specs.declared.barriers.Barriers.{Barriers}
use Rattle.lrc_races_detector.specs.Barriers.{current_of, cycle_of, open_of, known_by}
use Rattle.lrc_races_detector.specs.Clocks.{row, IsGained, IsLevelled, IsMarked}
use Rattle.lrc_races_detector.specs.Knowing.{Before, OfThread, ArrivesIn, Handed, handed}
use Rattle.lrc_races_detector.proofs.Handing.{precedes_handed, thread_precedes, handed_by, known_open, known_closed}
use Rattle.lrc_races_sure_pass.specs.Knowing.{Gathers, AreThreads, AreLocks, IsBarrier, AreBarriers, AreWrites, IsAsked, IsReached, ReadsFrom, written}
use Rattle.lrc_races_detector.proofs.Levelling.{gained_own}
use Rattle.lrc_races_sure_pass.proofs.Gathering.{Gathers-none, Gathers-same, Gathers-joined, Gathers-here, Gathers-levelled}

module _ (events : List Event) (n : ℕ) where
  cycle_gathers : (x t c : ℕ) (kept : Option Barrier) → IsBarrier events n x kept → cycle_of kept t ≡ Some c
      → Gathers events (Before n (ArrivesIn events x c)) (known_by kept t (Some c))
  cycle_gathers x t c kept is e =
      elim (cases_eq c (current_of kept)) [
        | inl same ↦
            subst (λ r. Gathers events (Before n (ArrivesIn events x c)) r) (sym (known_open events n kept t c same))
            (subst (λ d. Gathers events (Before n (ArrivesIn events x d)) (open_of kept)) (sym same) is.arrived)
        | inr other ↦
            subst (λ r. Gathers events (Before n (ArrivesIn events x c)) r) (sym (known_closed events n kept t c other)) (is.closed t c e other)
      ]

  known_gathers : (x t : ℕ) (kept : Option Barrier) → IsBarrier events n x kept → (cycle : Option ℕ) → (cycles_before events x n).of t ≡ cycle
      → Gathers events (Handed events n t (Depart x)) (known_by kept t cycle)
  known_gathers x t kept is None e = Gathers-none events (Handed events n t (Depart x)) (λ k (c, at, h). let never : ⊥ = cc in never)
  known_gathers x t kept is (Some c) e =
      Gathers-same events (Before n (ArrivesIn events x c)) (Handed events n t (Depart x)) (known_by kept t (Some c))
      (λ k h. (c, e, h))
      (λ k (d, at, h). let same : d ≡ c = cc in subst (λ y. Before n (ArrivesIn events x y) k) same h) (cycle_gathers x t c kept is (is.of t ∙ e))

  module _ (threads locks : Clocks) (barriers : Barriers) (are_threads : AreThreads events n threads) (are_locks : AreLocks events n locks)
      (are_barriers : AreBarriers events n barriers) where
    handed_gathers : (t : ℕ) (o : Operation) → Gathers events (Handed events n t o) (handed threads locks barriers t o)
    handed_gathers t (Acquire l) = are_locks l
    handed_gathers t (Wait l) = are_locks l
    handed_gathers t (Join u) = are_threads u
    handed_gathers t (Depart x) =
        let is = are_barriers x in
        known_gathers x t (slice_get barriers.barriers.items x) is (cycle_of (slice_get barriers.barriers.items x) t) (sym (is.of t))
    handed_gathers t (Read v) = Gathers-none events (λ k. ⊥) (λ k h. h)
    handed_gathers t (Write v) = Gathers-none events (λ k. ⊥) (λ k h. h)
    handed_gathers t (Release v) = Gathers-none events (λ k. ⊥) (λ k h. h)
    handed_gathers t (Post v) = Gathers-none events (λ k. ⊥) (λ k h. h)
    handed_gathers t (Fork v) = Gathers-none events (λ k. ⊥) (λ k h. h)
    handed_gathers t (Arrive v) = Gathers-none events (λ k. ⊥) (λ k h. h)
    handed_gathers t Idle = Gathers-none events (λ k. ⊥) (λ k h. h)

    -- each thread knows of its own events
    own_known : (between : Clocks) (t : ℕ) (known : List ℕ) → IsGained threads between t known
        → (i : ℕ) (a : Event) → At events i a → i < n → i < get_or (row between a.thread) a.thread 0
    own_known between t known gained i a at lt =
        let below = (are_threads a.thread).complete i i a at (lt, (a, at, inl refl)) (inl refl) in
        let le = gained_own threads between t known gained a.thread in
        omega (arith, below, le)

    pub asked : (b : Event) → At events n b → (between after : Clocks)
        → IsGained threads between b.thread (handed threads locks barriers b.thread b.operation)
        → (chunk : ℕ) → IsLevelled between after b.thread chunk n → IsAsked events n b.thread after
    asked b here between after gained chunk level = record {
      own = Gathers-levelled events (λ k. Precedes events k n) (λ t. t / 128 ≡ chunk) (row between b.thread)
          (row after b.thread) (λ t. get_or (row between t) t 0) n level.here
          (own_known between b.thread (handed threads locks barriers b.thread b.operation) gained)
          (Gathers-same events (λ k. Before n (OfThread events b.thread) k ⊎ Handed events n b.thread b.operation k)
          (λ k. Precedes events k n) (row between b.thread)
          (λ k h. elim h [
            | inl own ↦ thread_precedes events n k b here own
            | inr more ↦ handed_by events n k b here b.operation refl more
          ])
          (λ k p. precedes_handed events n k b here p)
          (Gathers-joined events (Before n (OfThread events b.thread)) (Handed events n b.thread b.operation)
          (row threads b.thread) (handed threads locks barriers b.thread b.operation) (row between b.thread)
          (are_threads b.thread) (handed_gathers b.thread b.operation) gained.here));
      others = λ u apart.
          subst (λ x. Gathers events (Before n (OfThread events u)) x)
          (sym (level.others u apart ∙ gained.others u apart)) (are_threads u);
    }

  -- ---- what is read

  reads_lead : (k : ℕ) (b : Event) → At events n b → (o : Operation) → b.operation ≡ o → ReadsFrom events n o k → LeadsOn events k n
  reads_lead k b here (Read v) e last = read here e last
  reads_lead k b here (Write v) e h = absurd h
  reads_lead k b here (Acquire v) e h = absurd h
  reads_lead k b here (Release v) e h = absurd h
  reads_lead k b here (Post v) e h = absurd h
  reads_lead k b here (Wait v) e h = absurd h
  reads_lead k b here (Fork v) e h = absurd h
  reads_lead k b here (Join v) e h = absurd h
  reads_lead k b here (Arrive v) e h = absurd h
  reads_lead k b here (Depart v) e h = absurd h
  reads_lead k b here Idle e h = absurd h

  lead_reads : (k : ℕ) (b : Event) → At events n b → LeadsOn events k n → Precedes events k n ⊎ ReadsFrom events n b.operation k
  lead_reads k b here (ordered p) = inl p
  lead_reads k b here (read {variable = v} {b = c} at e last) =
      inr (subst (λ o. ReadsFrom events n o k) (sym e ∙ ap (λ (x : Event). x.operation) (At-one at here)) last)

  written_gathers : (writes : Clocks) → AreWrites events n writes → (o : Operation) → Gathers events (ReadsFrom events n o) (written writes o)
  written_gathers writes are (Read v) = are v
  written_gathers writes are (Write v) = Gathers-none events (λ k. ⊥) (λ k h. h)
  written_gathers writes are (Acquire v) = Gathers-none events (λ k. ⊥) (λ k h. h)
  written_gathers writes are (Release v) = Gathers-none events (λ k. ⊥) (λ k h. h)
  written_gathers writes are (Post v) = Gathers-none events (λ k. ⊥) (λ k h. h)
  written_gathers writes are (Wait v) = Gathers-none events (λ k. ⊥) (λ k h. h)
  written_gathers writes are (Fork v) = Gathers-none events (λ k. ⊥) (λ k h. h)
  written_gathers writes are (Join v) = Gathers-none events (λ k. ⊥) (λ k h. h)
  written_gathers writes are (Arrive v) = Gathers-none events (λ k. ⊥) (λ k h. h)
  written_gathers writes are (Depart v) = Gathers-none events (λ k. ⊥) (λ k h. h)
  written_gathers writes are Idle = Gathers-none events (λ k. ⊥) (λ k h. h)

  pub reached : (threads writes : Clocks) (b : Event) → At events n b → AreWrites events n writes → IsAsked events n b.thread threads
      → (between after : Clocks) → IsGained threads between b.thread (written writes b.operation) → IsMarked between after b.thread (n + 1)
      → IsReached events n b.thread after
  reached threads writes b here are asked between after gained marked = record {
    own = Gathers-here events n b (row between b.thread) (row after b.thread) here
        (Gathers-same events (λ k. Precedes events k n ⊎ ReadsFrom events n b.operation k) (λ k. LeadsOn events k n) (row between b.thread)
        (λ k h. elim h [ inl p ↦ ordered p | inr more ↦ reads_lead k b here b.operation refl more ])
        (λ k s. lead_reads k b here s)
        (Gathers-joined events (λ k. Precedes events k n) (ReadsFrom events n b.operation) (row threads b.thread) (written writes b.operation)
        (row between b.thread) asked.own (written_gathers writes are b.operation) gained.here)) marked.here;
    others = λ u apart. subst (λ x. Gathers events (Before n (OfThread events u)) x) (sym (marked.others u apart ∙ gained.others u apart)) (asked.others u apart);
  }
