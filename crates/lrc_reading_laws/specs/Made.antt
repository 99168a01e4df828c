-- A list of intervals, and who stores and tells of them.
use Rattle.std.specs.Prelude.{◌≡◌, ◌↔◌, ℕ, ◌<◌, ◌≤◌, Option, Some, None, List, [], ◌∷◌, Contains, slice_get}
use Rattle.std.specs.List.{range_with_len}
use Rattle.lrc_time.specs.Time.{entry}
use Rattle.lrc_store.specs.Interval.{IntervalRecord, index_of}
use Rattle.lrc_store.specs.Store.{intervals_of}
use Rattle.lrc_envelope.specs.Envelope.{EnvelopeRecord}
use Rattle.lrc_envelope.specs.declared.message.Message.{Message}
use Rattle.lrc_envelope.specs.declared.message.Message.TheVariants.{LockGrant, Arrive, Depart}
use Rattle.lrc_barrier.specs.declared.arrival.Arrival.{Arrival}
use Rattle.lrc_barrier.specs.Barrier.{ManagerRecord}
use Rattle.lrc_protocol.specs.Times.{indices_by}
use Rattle.lrc_protocol.specs.Node.{Node}
use Rattle.lrc_protocol.specs.Run.{Logged, World}
use Rattle.lrc_protocol.specs.Follows.{pending}

-- each of these intervals is in the list
abbrev pub AllMade : List IntervalRecord → List IntervalRecord → Type 0
AllMade made [] = Unit {0}
AllMade made (interval ∷ intervals) = Contains made interval × AllMade made intervals

-- the intervals that a message tells of
abbrev pub intervals_in : Message → List IntervalRecord
intervals_in (LockGrant m) = m.intervals
intervals_in (Arrive m) = m.intervals
intervals_in (Depart m) = m.intervals
intervals_in _ = []

-- each message tells of intervals of the list
abbrev pub AllTold : List IntervalRecord → List EnvelopeRecord → Type 0
AllTold made [] = Unit {0}
AllTold made (envelope ∷ envelopes) = AllMade made (intervals_in envelope.message) × AllTold made envelopes

-- and so does each arrival that is kept
abbrev pub AllKept : List IntervalRecord → List (Option Arrival) → Type 0
AllKept made [] = Unit {0}
AllKept made (None ∷ arrivals) = AllKept made arrivals
AllKept made (Some arrival ∷ arrivals) = AllMade made arrival.intervals × AllKept made arrivals

-- the manager of barriers, if it is there, keeps such arrivals
abbrev pub ManagerKeeps : List IntervalRecord → Option ManagerRecord → Type 0
ManagerKeeps made None = Unit {0}
ManagerKeeps made (Some manager) = AllKept made manager.arrivals

-- The list has of each node one interval for each index from 1 up to the node's own entry in its time, one after another; and what a
-- node stores, what a pending message tells of, and what the manager keeps of arrivals is in it. It leaves open what the stamp and
-- the pages are of an interval that nobody stores or tells of.
pub record AreMade (made : List IntervalRecord) (world : World) : Type 0 where
  pub exact : (q : ℕ) (l : Logged) → slice_get world.nodes q ≡ Some l
      → indices_by made q ≡ range_with_len 1 (entry l.node.locks.time q)
  pub stored : (q : ℕ) (l : Logged) → slice_get world.nodes q ≡ Some l → AllMade made (intervals_of l.node.memory.store)
  pub told : AllTold made (pending world)
  pub kept : (q : ℕ) (l : Logged) → slice_get world.nodes q ≡ Some l → ManagerKeeps made l.node.barrier.manager

-- a node stores just those of them that its time covers and its collected time does not
abbrev pub StoresJust : List IntervalRecord → Node → Type 0
StoresJust made node = (interval : IntervalRecord)
    → Contains (intervals_of node.memory.store) interval
    ↔ (Contains made interval × (entry node.memory.collected interval.node < index_of interval)
    × (index_of interval ≤ entry node.locks.time interval.node))
