-- The cycles of barriers, event by event.
use Rattle.std.specs.Prelude.{◌≡◌, ℕ, List, Option, Some, None, length, slice_get}
use Rattle.lrc_races_trace.specs.declared.event.Event.{Event}
use Rattle.lrc_races_trace.specs.declared.event.Operation.{Operation}
use Rattle.lrc_races_trace.specs.declared.event.Operation.TheVariants.{Arrive, Depart}
use Rattle.lrc_races_trace.specs.Trace.{At}
use Rattle.lrc_races_trace.specs.Cycles.{cycles_before}
use Rattle.lrc_races_detector.specs.declared.barriers.Barrier.{Barrier}
use Rattle.lrc_races_detector.specs.Barriers.{current_of, cycle_of}

-- the number of the cycle to which an operation of the thread at this position belongs, if it is one at a barrier
abbrev pub cycle_in : List Event → ℕ → ℕ → Operation → Option ℕ
cycle_in events n thread (Arrive x) = Some (cycles_before events x n).current
cycle_in events n thread (Depart x) = (cycles_before events x n).of thread
cycle_in events n thread _ = None

-- each event has that number
pub record AreNumbers (events : List Event) (numbers : List (Option ℕ)) : Type 0 where
  pub all : length numbers ≡ length events
  pub each : (k : ℕ) (a : Event) → At events k a → slice_get numbers k ≡ Some (cycle_in events k a.thread a.operation)

-- what is kept of a barrier: its open cycle, and each thread's
pub record IsCycles (events : List Event) (n x : ℕ) (barrier : Option Barrier) : Type 0 where
  pub current : current_of barrier ≡ (cycles_before events x n).current
  pub of : (thread : ℕ) → cycle_of barrier thread ≡ (cycles_before events x n).of thread

abbrev pub AreCycles : List Event → ℕ → List Barrier → Type 0
AreCycles events n barriers = (x : ℕ) → IsCycles events n x (slice_get barriers x)
