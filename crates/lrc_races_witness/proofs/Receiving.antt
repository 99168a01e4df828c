-- What a thread gets at an event leads to it: a thread that has received what the event gets knows by way of which events it was
-- reached.
use Rattle.std.proofs.Common.{◌≡◌, ℕ, ◌⊎◌, List, [], get_or, max, inl, inr, refl, sym, subst, ◌∙◌, arith}
use Rattle.std.proofs.lemmas.Bool.{cases_eq, cases_lt}
use Rattle.std.specs.Prelude.{Option, Some, None, slice_get}
use Rattle.lrc_races_trace.specs.declared.event.Event.{Event}
use Rattle.lrc_races_trace.specs.declared.event.Operation.{Operation}
use Rattle.lrc_races_trace.specs.declared.event.Operation.TheVariants.{Read, Write, Acquire, Release, Post, Wait, Fork, Join, Arrive, Depart, Idle}
use Rattle.lrc_races_trace.specs.Trace.{At}
use Rattle.lrc_races_trace.specs.Cycles.{cycles_before}
use Rattle.lrc_races_trace.specs.Order.{Precedes}
use Rattle.lrc_races_detector.specs.declared.clocks.Clocks.{Clocks}
use Rattle.lrc_races_detector.specs.declared.barriers.Barrier.{Barrier}
use Rattle.lrc_races_detector.specs.declared.barriers.Barriers.{Barriers}
use Rattle.lrc_races_detector.specs.Barriers.{current_of, cycle_of, open_of, known_by}
use Rattle.lrc_races_detector.specs.Clocks.{row, IsGained}
use Rattle.lrc_races_detector.specs.Knowing.{Before, OfThread, ArrivesIn, Handed, handed}
use Rattle.lrc_races_detector.proofs.Handing.{precedes_handed, thread_precedes, handed_by, known_open, known_closed}
use Rattle.lrc_races_sure_pass.specs.Knowing.{Gathers, AreThreads, AreLocks, IsBarrier, AreBarriers}

module _ (events : List Event) where
  -- nothing leads to a position of none
  Gathers-none : (these : ℕ → Type 0) → ((k : ℕ) → these k → ⊥) → Gathers events these []
  Gathers-none these none = record {
    sound = λ i a h lt. absurd (omega arith);
    complete = λ i k a h t r. absurd (none k t);
  }

  -- the same positions, said otherwise
  Gathers-same : (these those : ℕ → Type 0) (x : List ℕ) → ((k : ℕ) → these k → those k) → ((k : ℕ) → those k → these k)
      → Gathers events these x → Gathers events those x
  Gathers-same these those x to from g = record {
    sound = λ i a h lt. let (k, t, r) = g.sound i a h lt in (k, to k t, r);
    complete = λ i k a h t r. g.complete i k a h (from k t) r;
  }

  -- the ones or the others
  Gathers-joined : (these those : ℕ → Type 0) (x y z : List ℕ) → Gathers events these x → Gathers events those y
      → ((p : ℕ) → get_or z p 0 ≡ max (get_or x p 0) (get_or y p 0)) → Gathers events (λ k. these k ⊎ those k) z
  Gathers-joined these those x y z g h e = record {
    sound = λ i a act lt.
        elim (cases_lt i (get_or x a.thread 0)) [
          | inl here ↦ let (k, t, r) = g.sound i a act here in (k, inl t, r)
          | inr past ↦ let same = e a.thread in let (k, t, r) = h.sound i a act (omega arith) in (k, inr t, r)
        ];
    complete = λ i k a act t r.
        let same = e a.thread in
        elim t [
          | inl of ↦ let below = g.complete i k a act of r in omega arith
          | inr other ↦ let below = h.complete i k a act other r in omega arith
        ];
  }

module _ (events : List Event) (n : ℕ) where
  cycle_gathers : (x t c : ℕ) (kept : Option Barrier) → IsBarrier events n x kept → cycle_of kept t ≡ Some c
      → Gathers events (Before n (ArrivesIn events x c)) (known_by kept t (Some c))
  cycle_gathers x t c kept is e =
      elim (cases_eq c (current_of kept)) [
        | inl same ↦
            subst (λ r. Gathers events (Before n (ArrivesIn events x c)) r) (sym (known_open events n kept t c same))
            (subst (λ d. Gathers events (Before n (ArrivesIn events x d)) (open_of kept)) (sym same) is.arrived)
        | inr other ↦
            subst (λ r. Gathers events (Before n (ArrivesIn events x c)) r) (sym (known_closed events n kept t c other)) (is.closed t c e other)
      ]

  known_gathers : (x t : ℕ) (kept : Option Barrier) → IsBarrier events n x kept → (cycle : Option ℕ) → (cycles_before events x n).of t ≡ cycle
      → Gathers events (Handed events n t (Depart x)) (known_by kept t cycle)
  known_gathers x t kept is None e = Gathers-none events (Handed events n t (Depart x)) (λ k (c, at, h). let never : ⊥ = cc in never)
  known_gathers x t kept is (Some c) e =
      Gathers-same events (Before n (ArrivesIn events x c)) (Handed events n t (Depart x)) (known_by kept t (Some c))
      (λ k h. (c, e, h))
      (λ k (d, at, h). let same : d ≡ c = cc in subst (λ y. Before n (ArrivesIn events x y) k) same h) (cycle_gathers x t c kept is (is.of t ∙ e))

  module _ (threads locks : Clocks) (barriers : Barriers) (are_threads : AreThreads events n threads) (are_locks : AreLocks events n locks)
      (are_barriers : AreBarriers events n barriers) where
    handed_gathers : (t : ℕ) (o : Operation) → Gathers events (Handed events n t o) (handed threads locks barriers t o)
    handed_gathers t (Acquire l) = are_locks l
    handed_gathers t (Wait l) = are_locks l
    handed_gathers t (Join u) = are_threads u
    handed_gathers t (Depart x) =
        let is = are_barriers x in
        known_gathers x t (slice_get barriers.barriers.items x) is (cycle_of (slice_get barriers.barriers.items x) t) (sym (is.of t))
    handed_gathers t (Read v) = Gathers-none events (λ k. ⊥) (λ k h. h)
    handed_gathers t (Write v) = Gathers-none events (λ k. ⊥) (λ k h. h)
    handed_gathers t (Release v) = Gathers-none events (λ k. ⊥) (λ k h. h)
    handed_gathers t (Post v) = Gathers-none events (λ k. ⊥) (λ k h. h)
    handed_gathers t (Fork v) = Gathers-none events (λ k. ⊥) (λ k h. h)
    handed_gathers t (Arrive v) = Gathers-none events (λ k. ⊥) (λ k h. h)
    handed_gathers t Idle = Gathers-none events (λ k. ⊥) (λ k h. h)

    pub received : (b : Event) → At events n b → (after : Clocks)
        → IsGained threads after b.thread (handed threads locks barriers b.thread b.operation)
        → Gathers events (λ k. Precedes events k n) (row after b.thread)
    received b here after gained =
        Gathers-same events (λ k. Before n (OfThread events b.thread) k ⊎ Handed events n b.thread b.operation k) (λ k. Precedes events k n)
        (row after b.thread)
        (λ k h. elim h [ inl own ↦ thread_precedes events n k b here own | inr more ↦ handed_by events n k b here b.operation refl more ])
        (λ k p. precedes_handed events n k b here p)
        (Gathers-joined events (Before n (OfThread events b.thread)) (Handed events n b.thread b.operation) (row threads b.thread)
        (handed threads locks barriers b.thread b.operation) (row after b.thread) (are_threads b.thread)
        (handed_gathers b.thread b.operation) gained.here)
