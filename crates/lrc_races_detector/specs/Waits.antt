-- Which threads wait at a barrier, after events with which nothing is wrong.
use Rattle.std.specs.Prelude.{◌≡◌, ◌≢◌, ℕ, ◌≤◌, List, Option, Some, None, slice_get}
use Rattle.lrc_races_trace.specs.declared.event.Event.{Event}
use Rattle.lrc_races_trace.specs.declared.fault.Reason.{Reason}
use Rattle.lrc_races_trace.specs.declared.fault.Reason.TheVariants.{Waits as WaitsAtOne, NotArrived}
use Rattle.lrc_races_trace.specs.Formed.{WaitsAt, Holds, rank}
use Rattle.lrc_races_detector.specs.declared.waits.Waiting.{Waiting}
use Rattle.lrc_races_detector.specs.declared.waits.Waits.{Waits}

-- what is kept of a thread; of one of which nothing is kept, that it does not wait
abbrev pub waiting_at : Option (Option Waiting) → Option Waiting
waiting_at (Some waiting) = waiting
waiting_at None = None

abbrev pub waiting_of : Waits → ℕ → Option Waiting
waiting_of waits thread = waiting_at (slice_get waits.threads.items thread)

-- this is kept of this thread, and of all others the same as before
pub record IsWaitSet (before after : Waits) (thread : ℕ) (waiting : Option Waiting) : Type 0 where
  pub here : waiting_of after thread ≡ waiting
  pub others : (other : ℕ) → other ≢ thread → waiting_of after other ≡ waiting_of before other

-- the thread waits at this barrier since this line, and at no other
pub record WaitsAlone (events : List Event) (n thread : ℕ) (waiting : Waiting) : Type 0 where
  pub arrive : Event
  pub at : WaitsAt events n thread waiting.barrier arrive
  pub line : arrive.line ≡ waiting.line
  pub alone : (barrier : ℕ) (other : Event) → WaitsAt events n thread barrier other → barrier ≡ waiting.barrier

-- it does so, or waits at none
abbrev pub IsWait : List Event → ℕ → ℕ → Option Waiting → Type 0
IsWait events n thread (Some waiting) = WaitsAlone events n thread waiting
IsWait events n thread None = (barrier : ℕ) (arrive : Event) → ¬ WaitsAt events n thread barrier arrive

abbrev pub AreWaits : List Event → ℕ → Waits → Type 0
AreWaits events n waits = (thread : ℕ) → IsWait events n thread (waiting_of waits thread)

-- no reason that a barrier gives holds of the event
pub record HasNoBarrierFault (events : List Event) (n : ℕ) (event : Event) : Type 0 where
  pub free : (barrier line : ℕ) → ¬ Holds events n event (WaitsAtOne barrier line)
  pub arrived : (barrier : ℕ) → ¬ Holds events n event (NotArrived barrier)

-- the reason holds of the event, is one that a barrier gives, and is the first of these
pub record IsBarrierFault (events : List Event) (n : ℕ) (event : Event) (reason : Reason) : Type 0 where
  pub holds : Holds events n event reason
  pub least : 1 ≤ rank reason
  pub most : rank reason ≤ 2
  pub first : (barrier line : ℕ) → Holds events n event (WaitsAtOne barrier line) → rank reason ≤ 1
