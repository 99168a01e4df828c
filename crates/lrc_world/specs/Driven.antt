-- What is driven, as its functions say it.
use Rattle.std.specs.Prelude.{◌≡◌, ◌⊎◌, ◌<◌, ◌≤◌, ℕ, false, List, [], ◌∷◌, ◌++◌, Result, Ok, Err, OnOk, Some, length}
use Rattle.lrc_protocol.specs.declared.event.Event.{Event}
use Rattle.lrc_protocol.specs.Run.{World as Run, event_on}
use Rattle.lrc_world.specs.declared.report.TurnFault.{TurnFault}
use Rattle.lrc_world.specs.declared.report.TurnFault.TheVariants.{Worn, NoMemory}
use Rattle.lrc_world.specs.declared.report.TheConstants.{MOST_EVENTS}
use Rattle.lrc_world.specs.declared.rounds.Driver.{Driver}
use Rattle.lrc_world.specs.declared.lead.Lead.{Lead}
use Rattle.lrc_world.specs.declared.lead.Lead.TheVariants.{Rounds, Random}
use Rattle.lrc_world.specs.declared.turned.Turned.{Turned}
use Rattle.lrc_world.specs.declared.world.World.{World}
use Rattle.lrc_world.specs.Led.{Schedule, Led, WearsOut}
use Rattle.lrc_world.specs.Random.{wandering}
use Rattle.lrc_world.specs.Report.{IsOver}
use Rattle.lrc_world.specs.Rounds.{ready_at, schedule_of_rounds}
use Rattle.lrc_world.specs.Turned.{when_all, turned_from, turner}
use Rattle.lrc_world.specs.World.{NotesTurn, Starts, Shows, PlaysTo}

-- this node is not ready
abbrev pub IsAsleep : ℕ → World → Type 0
IsAsleep n world = (starts : Starts) (run : Run) → Shows starts world run → ready_at run n ≡ false

-- none of the nodes below this number is ready
abbrev pub NoneReady : ℕ → World → Type 0
NoneReady nodes world = (n : ℕ) → n < nodes → IsAsleep n world

-- nothing is left to do in a world of so many nodes
abbrev pub IsRunOver : ℕ → World → Type 0
IsRunOver nodes world = (starts : Starts) (run : Run) → Shows starts world run → length run.nodes ≡ nodes → IsOver run

-- What is driven stands here, unless it has as many events as there may be: its events are led so from a world on, and its world
-- shows the run after them and has kept the turns that they made, behind earlier ones.
pub record DriverStandsAt (schedule : Schedule) (starts : Starts) (start : Run) (earlier : List Turned) (at : schedule.Standing) (driver : Driver)
    : Type 0 where
  pub run : Run
  pub standing : schedule.Standing
  pub led : Led schedule start driver.events.items run standing
  pub shows : Shows starts driver.world run
  pub turned : driver.world.turned.items ≡ earlier ++ when_all starts.keep (turned_from (Some start) driver.events.items)
  pub here : (standing ≡ at) ⊎ (MOST_EVENTS ≤ length driver.events.items)

-- what is driven from one standing to another: events are added, of which there are no more than there may be
pub record IsDrivenOn (schedule : Schedule) (from to : schedule.Standing) (old new : Driver) : Type 0 where
  pub drives : (starts : Starts) (start : Run) (earlier : List Turned) → DriverStandsAt schedule starts start earlier from old
      → DriverStandsAt schedule starts start earlier to new
  pub few : length old.events.items ≤ MOST_EVENTS → length new.events.items ≤ MOST_EVENTS
  pub more : length old.events.items ≤ length new.events.items

-- the same, or a number or a message was too large, or no memory is left
abbrev pub DrivesTo : (schedule : Schedule) → schedule.Standing → schedule.Standing → Driver → Driver → Result (Unit {0}) TurnFault → Type 0
DrivesTo schedule from to old new (Ok done) = IsDrivenOn schedule from to old new
DrivesTo schedule from to old new (Err Worn) =
    (starts : Starts) (start : Run) (earlier : List Turned) → DriverStandsAt schedule starts start earlier from old → WearsOut schedule start
DrivesTo schedule from to old new (Err NoMemory) = Unit {0}

-- what leads a run of so many nodes in this order
abbrev pub schedule_of : ℕ → Lead → Schedule
schedule_of nodes (Rounds picker) = schedule_of_rounds picker nodes
schedule_of nodes (Random seed) = wandering nodes seed

-- from the beginning on it is driven to somewhere
abbrev pub IsDrivenBy : Schedule → Driver → Driver → Result (Unit {0}) TurnFault → Type 0
IsDrivenBy schedule old new result = (to : schedule.Standing) × DrivesTo schedule schedule.first to old new result

-- no event was added, though there was room for one
pub record IsStill (old new : Driver) : Type 0 where
  pub none : length new.events.items ≤ length old.events.items
  pub room : length new.events.items < MOST_EVENTS

-- one event was added, and it was played, if there was room for it
pub record PlaysOne (old new : Driver) (event : Event) (result : Result (Unit {0}) TurnFault) : Type 0 where
  pub room : length old.events.items < MOST_EVENTS
  pub events : OnOk result (new.events.items ≡ old.events.items ++ event ∷ [])
  pub plays : (starts : Starts) (run : Run) → Shows starts old.world run → PlaysTo starts new.world (event_on run event) result
  pub turned : (starts : Starts) (run : Run) → Shows starts old.world run → OnOk result (NotesTurn old.world new.world event (turner run event))

-- there was no room for it, and nothing changed
pub record IsFull (old new : Driver) (result : Result (Unit {0}) TurnFault) : Type 0 where
  pub full : MOST_EVENTS ≤ length old.events.items
  pub same : new ≡ old
  pub ok : result ≡ Ok tt
