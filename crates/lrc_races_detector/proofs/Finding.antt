-- The first event that no program would give, one event further.
use Rattle.std.proofs.Common.{ℕ, ◌+◌, ◌≤◌, List, arith}
use Rattle.std.specs.Prelude.{Option, Some, None, MatchOption}
use Rattle.lrc_races_trace.specs.declared.event.Event.{Event}
use Rattle.lrc_races_trace.specs.declared.fault.Reason.{Reason}
use Rattle.lrc_races_trace.specs.declared.fault.Reason.TheVariants.{Joined, Waits as WaitsAtOne, NotArrived, Held, NotHeld, Known}
use Rattle.lrc_races_trace.specs.Trace.{At}
use Rattle.lrc_races_trace.specs.Formed.{Holds, rank, IsFirstFault}
use Rattle.lrc_races_detector.specs.Held.{HasNoLockFault, IsOfLock}
use Rattle.lrc_races_detector.specs.Threads.{IsJoined, IsKnown}
use Rattle.lrc_races_detector.specs.Waits.{HasNoBarrierFault, IsBarrierFault}
use Rattle.lrc_races_detector.specs.Finding.{HasNoFault, IsFirstReason}

module _ (events : List Event) (n : ℕ) (b : Event) where
  pub joined_first : (reason : Reason) → IsJoined reason × Holds events n b reason → IsFirstReason events n b reason
  joined_first (Joined line) (is, holds) = record { holds = holds; first = λ other h. omega arith }
  joined_first (WaitsAtOne x line) (is, holds) = absurd is
  joined_first (NotArrived x) (is, holds) = absurd is
  joined_first (Held l u line) (is, holds) = absurd is
  joined_first (NotHeld l) (is, holds) = absurd is
  joined_first (Known u line) (is, holds) = absurd is

  module _ (unjoined : (line : ℕ) → Holds events n b (Joined line) → ⊥) where
    barrier_below : (reason other : Reason) → IsBarrierFault events n b reason → Holds events n b other → rank reason ≤ rank other
    barrier_below reason (Joined line) fault holds = absurd (unjoined line holds)
    barrier_below reason (WaitsAtOne x line) fault holds = fault.first x line holds
    barrier_below reason (NotArrived x) fault holds = fault.most
    barrier_below reason (Held l u line) fault holds = let le = fault.most in omega arith
    barrier_below reason (NotHeld l) fault holds = let le = fault.most in omega arith
    barrier_below reason (Known u line) fault holds = let le = fault.most in omega arith

    pub barrier_first : (reason : Reason) → IsBarrierFault events n b reason → IsFirstReason events n b reason
    barrier_first reason fault = record { holds = fault.holds; first = λ other holds. barrier_below reason other fault holds }

    module _ (fine : HasNoBarrierFault events n b) where
      held_below : (l u line : ℕ) (other : Reason) → Holds events n b (Held l u line) → Holds events n b other → 3 ≤ rank other
      held_below l u line (Joined at) fault holds = absurd (unjoined at holds)
      held_below l u line (WaitsAtOne x at) fault holds = absurd (fine.free x at holds)
      held_below l u line (NotArrived x) fault holds = absurd (fine.arrived x holds)
      held_below l u line (Held m v at) fault holds = omega arith
      held_below l u line (NotHeld m) fault holds = omega arith
      held_below l u line (Known v at) fault holds = omega arith

      released_below : (l : ℕ) (other : Reason) → Holds events n b (NotHeld l) → Holds events n b other → 4 ≤ rank other
      released_below l (Joined at) fault holds = absurd (unjoined at holds)
      released_below l (WaitsAtOne x at) fault holds = absurd (fine.free x at holds)
      released_below l (NotArrived x) fault holds = absurd (fine.arrived x holds)
      released_below l (Held m v at) (op, free) (op', apart, held) = let never : ⊥ = cc in absurd never
      released_below l (NotHeld m) fault holds = omega arith
      released_below l (Known v at) fault holds = omega arith

      pub lock_first : (reason : Reason) → IsOfLock reason × Holds events n b reason → IsFirstReason events n b reason
      lock_first (Held l u line) (is, holds) = record { holds = holds; first = λ other h. held_below l u line other holds h }
      lock_first (NotHeld l) (is, holds) = record { holds = holds; first = λ other h. released_below l other holds h }
      lock_first (Joined line) (is, holds) = absurd is
      lock_first (WaitsAtOne x line) (is, holds) = absurd is
      lock_first (NotArrived x) (is, holds) = absurd is
      lock_first (Known u line) (is, holds) = absurd is

      module _ (unlocked : HasNoLockFault events n b) where
        known_below : (u line : ℕ) (other : Reason) → Holds events n b other → 5 ≤ rank other
        known_below u line (Joined at) holds = absurd (unjoined at holds)
        known_below u line (WaitsAtOne x at) holds = absurd (fine.free x at holds)
        known_below u line (NotArrived x) holds = absurd (fine.arrived x holds)
        known_below u line (Held m v at) holds = absurd (unlocked.free m v at holds)
        known_below u line (NotHeld m) holds = absurd (unlocked.held m holds)
        known_below u line (Known v at) holds = omega arith

        known_first : (reason : Reason) → IsKnown reason × Holds events n b reason → IsFirstReason events n b reason
        known_first (Known u line) (is, holds) = record { holds = holds; first = λ other h. known_below u line other h }
        known_first (Joined line) (is, holds) = absurd is
        known_first (WaitsAtOne x line) (is, holds) = absurd is
        known_first (NotArrived x) (is, holds) = absurd is
        known_first (Held l u line) (is, holds) = absurd is
        known_first (NotHeld l) (is, holds) = absurd is

        no_fault : ((u line : ℕ) → Holds events n b (Known u line) → ⊥) → HasNoFault events n b
        no_fault unknown (Joined line) holds = unjoined line holds
        no_fault unknown (WaitsAtOne x line) holds = fine.free x line holds
        no_fault unknown (NotArrived x) holds = fine.arrived x holds
        no_fault unknown (Held l u line) holds = unlocked.free l u line holds
        no_fault unknown (NotHeld l) holds = unlocked.held l holds
        no_fault unknown (Known u line) holds = unknown u line holds

        pub known_last : (o : Option Reason) → MatchOption o ((u line : ℕ) → Holds events n b (Known u line) → ⊥) (λ reason. IsKnown reason × Holds events n b reason)
            → MatchOption o (HasNoFault events n b) (IsFirstReason events n b)
        known_last (Some reason) h = known_first reason h
        known_last None h = no_fault h

module _ (events : List Event) (n : ℕ) (b : Event) (here : At events n b) where
  pub fault_here : (reason : Reason) → IsFirstReason events n b reason → IsFirstFault events n None → IsFirstFault events (n + 1) (Some (record { event = b; reason = reason }))
  fault_here reason first none = (
    n,
    omega arith,
    here,
    record {
      event = b;
      at = here;
      holds = first.holds;
      first = first.first;
      earlier = λ k a other lt at holds. none k a other lt at holds;
    },
  )
