-- What is known of the first event that no program would give, after the events before a position.
use Rattle.std.specs.Prelude.{◌≡◌, ℕ, ◌≤◌, List, None}
use Rattle.lrc_races_trace.specs.declared.event.Event.{Event}
use Rattle.lrc_races_trace.specs.declared.fault.Reason.{Reason}
use Rattle.lrc_races_trace.specs.Formed.{Holds, rank, IsFirstFault}
use Rattle.lrc_races_detector.specs.declared.fault_finder.Kept.{Kept}
use Rattle.lrc_races_detector.specs.declared.fault_finder.FaultFinder.{FaultFinder}
use Rattle.lrc_races_detector.specs.Threads.{HasThreads}
use Rattle.lrc_races_detector.specs.Held.{AreHolders}
use Rattle.lrc_races_detector.specs.Waits.{AreWaits}

-- no reason holds of the event
abbrev pub HasNoFault : List Event → ℕ → Event → Type 0
HasNoFault events n event = (reason : Reason) → ¬ Holds events n event reason

-- the reason is the first that holds
pub record IsFirstReason (events : List Event) (n : ℕ) (event : Event) (reason : Reason) : Type 0 where
  pub holds : Holds events n event reason
  pub first : (other : Reason) → Holds events n event other → rank reason ≤ rank other

-- this is kept of the events before position n
pub record IsKept (events : List Event) (n : ℕ) (kept : Kept) : Type 0 where
  pub threads : HasThreads events n kept.threads
  pub waits : AreWaits events n kept.waits
  pub holders : AreHolders events n kept.holders

-- the first fault before position n is found, or there is none so far, and what is kept says what is wrong with the next event
pub record HasLooked (events : List Event) (n : ℕ) (finder : FaultFinder) : Type 0 where
  pub found : IsFirstFault events n finder.found
  pub kept : finder.found ≡ None → IsKept events n finder.kept
