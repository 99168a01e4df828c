-- Sure races, and the pairs of them that are told.
use Rattle.std.specs.Prelude.{◌≡◌, ℕ, ◌<◌, ◌≤◌, ◌↔◌, List, AllPairs, Contains}
use Rattle.lrc_races_trace.specs.declared.event.Event.{Event}
use Rattle.lrc_races_trace.specs.declared.event.Pair.{Pair}
use Rattle.lrc_races_trace.specs.Trace.{At}
use Rattle.lrc_races_trace.specs.Races.{Conflict, ComesFirst}
use Rattle.lrc_races_sure.specs.Leading.{IsByWay}

-- Two accesses are a sure race, if they conflict and the later one was not reached by way of the earlier one. The earlier is
-- named first.
pub record IsSureRace (events : List Event) (i j : ℕ) : Type 0 where
  pub a : Event
  pub b : Event
  pub earlier : i < j
  pub first : At events i a
  pub second : At events j b
  pub conflict : Conflict a b
  pub free : ¬ IsByWay events i j

-- Told are, for each access and each other thread, the last access of that thread before it that is a sure race with it.
pub record IsSureTold (events : List Event) (pair : Pair) : Type 0 where
  pub first : At events pair.earlier.position pair.earlier.event
  pub second : At events pair.later.position pair.later.event
  pub sure : IsSureRace events pair.earlier.position pair.later.position
  pub last : (k : ℕ) (c : Event) → At events k c → c.thread ≡ pair.earlier.event.thread → IsSureRace events k pair.later.position
      → k ≤ pair.earlier.position

-- the pairs are exactly those that are told of the event at this position
pub record AreSureToldAt (events : List Event) (position : ℕ) (pairs : List Pair) : Type 0 where
  pub in_order : AllPairs ComesFirst pairs
  pub exact : (pair : Pair) → Contains pairs pair ↔ (IsSureTold events pair × (pair.later.position ≡ position))

-- the pairs are exactly those that are told of the trace
pub record AreSureTold (events : List Event) (pairs : List Pair) : Type 0 where
  pub in_order : AllPairs ComesFirst pairs
  pub exact : (pair : Pair) → Contains pairs pair ↔ IsSureTold events pair
