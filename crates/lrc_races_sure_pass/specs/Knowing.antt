-- What the vectors of the detector know of the events before a position: by way of which events a thread, a lock, a barrier or
-- the last write of a variable was reached.
use Rattle.std.specs.Prelude.{◌≡◌, ◌≢◌, ℕ, ◌<◌, List, [], Option, Some, slice_get, slice_index}
use Rattle.lrc_races_trace.specs.declared.event.Event.{Event}
use Rattle.lrc_races_trace.specs.declared.event.Operation.{Operation}
use Rattle.lrc_races_trace.specs.declared.event.Operation.TheVariants.{Read}
use Rattle.lrc_races_trace.specs.Trace.{At}
use Rattle.lrc_races_trace.specs.Cycles.{cycles_before}
use Rattle.lrc_races_trace.specs.Order.{Precedes}
use Rattle.lrc_races_sure.specs.Leading.{IsLastWrite, Leads}
use Rattle.lrc_races_detector.specs.declared.clocks.Clocks.{Clocks}
use Rattle.lrc_races_detector.specs.declared.barriers.Barrier.{Barrier}
use Rattle.lrc_races_detector.specs.declared.barriers.Barriers.{Barriers}
use Rattle.lrc_races_detector.specs.Clocks.{row}
use Rattle.lrc_races_detector.specs.Barriers.{current_of, cycle_of, open_of, closed_of}
use Rattle.lrc_races_detector.specs.Knowing.{OfThread, GivesLock, ArrivesIn, Before}

-- A vector gathers these positions: an event is one of them, or leads to one, exactly where its position is below the entry
-- of its thread.
pub record Gathers (events : List Event) (these : ℕ → Type 0) (known : List ℕ) : Type 0 where
  pub sound : (i : ℕ) (a : Event) → At events i a → i < slice_index known a.thread → (k : ℕ) × these k × Leads events i k
  pub complete : (i k : ℕ) (a : Event) → At events i a → these k → Leads events i k → i < slice_index known a.thread

abbrev pub AreThreads : List Event → ℕ → Clocks → Type 0
AreThreads events n threads = (u : ℕ) → Gathers events (Before n (OfThread events u)) (row threads u)

abbrev pub AreLocks : List Event → ℕ → Clocks → Type 0
AreLocks events n locks = (l : ℕ) → Gathers events (Before n (GivesLock events l)) (row locks l)

-- what is kept of a barrier: its open cycle, and of each thread its cycle, where that is closed
pub record IsBarrier (events : List Event) (n x : ℕ) (barrier : Option Barrier) : Type 0 where
  pub current : current_of barrier ≡ (cycles_before events x n).current
  pub of : (thread : ℕ) → cycle_of barrier thread ≡ (cycles_before events x n).of thread
  pub arrived : Gathers events (Before n (ArrivesIn events x (current_of barrier))) (open_of barrier)
  pub closed : (thread cycle : ℕ) → cycle_of barrier thread ≡ Some cycle → cycle ≢ current_of barrier
      → Gathers events (Before n (ArrivesIn events x cycle)) (closed_of barrier thread)

abbrev pub AreBarriers : List Event → ℕ → Barriers → Type 0
AreBarriers events n barriers = (x : ℕ) → IsBarrier events n x (slice_get barriers.barriers.items x)

-- of each variable, what was known at its last write
abbrev pub AreWrites : List Event → ℕ → Clocks → Type 0
AreWrites events n writes = (v : ℕ) → Gathers events (λ k. IsLastWrite events k n v) (row writes v)

-- The thread of the event at this position has come to know of all by way of which the event was reached, and no other thread
-- of anything.
pub record IsAsked (events : List Event) (n thread : ℕ) (threads : Clocks) : Type 0 where
  pub own : Gathers events (λ k. Precedes events k n) (row threads thread)
  pub others : (u : ℕ) → (u ≡ thread → ⊥) → Gathers events (Before n (OfThread events u)) (row threads u)

-- it has come to know of what it reads, too, and of the event itself
pub record IsReached (events : List Event) (n thread : ℕ) (threads : Clocks) : Type 0 where
  pub own : Gathers events (λ k. k ≡ n) (row threads thread)
  pub others : (u : ℕ) → (u ≡ thread → ⊥) → Gathers events (Before n (OfThread events u)) (row threads u)

-- the last write that an event reads
abbrev pub ReadsFrom : List Event → ℕ → Operation → ℕ → Type 0
ReadsFrom events n (Read v) k = IsLastWrite events k n v
ReadsFrom events n _ k = ⊥

-- the row that has it
abbrev pub written : Clocks → Operation → List ℕ
written writes (Read v) = row writes v
written writes _ = []
