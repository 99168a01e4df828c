-- Runs whose events are not given: something else says which event comes next.
use Rattle.std.specs.Prelude.{◌≡◌, ◌⊎◌, ◌<◌, ℕ, true, Some, None, List, [], ◌∷◌, ◌++◌, length}
use Rattle.lrc_program.specs.declared.Program.{Program}
use Rattle.lrc_protocol.specs.declared.event.Event.{Event}
use Rattle.lrc_protocol.specs.Node.{OptionsRecord}
use Rattle.lrc_protocol.specs.Run.{World as Run, event_on, fresh_world}
use Rattle.lrc_world.specs.World.{sends_long}

-- What leads a run: where it may stand, and where it stands at first; which event is due where it stands so, and where it stands after
-- that; and where it passes on without an event.
pub record Schedule : Type 1 where
  pub Standing : Type 0
  pub first : Standing
  pub Due : Run → Standing → Event → Standing → Type 0
  pub Passes : Run → Standing → Standing → Type 0

-- These are the first events of a run that is led so from a world on, with the run after them and where it stands then: each was
-- due where it stood before, and none is left out.
pub data Led (schedule : Schedule) (start : Run) : List Event → Run → schedule.Standing → Type 0 where
  begins : Led schedule start [] start schedule.first
  plays : {events : List Event} {run next : Run} {at after : schedule.Standing} {event : Event} → Led schedule start events run at
      → schedule.Due run at event after → event_on run event ≡ Some next → Led schedule start (events ++ event ∷ []) next after
  passes : {events : List Event} {run : Run} {at after : schedule.Standing} → Led schedule start events run at
      → schedule.Passes run at after → Led schedule start events run after

-- the events are the first ones of a program's run that is led so
abbrev pub AreLed : Schedule → Program → ℕ → OptionsRecord → List Event → Type 0
AreLed schedule program nodes options events =
    (run : Run) × (at : schedule.Standing) × Led schedule (fresh_world program nodes options) events run at

-- A run that is led so from a world on comes, after fewer than 100,000,000 events, to one at which a number, an interval's index or a
-- stamp would be too large, or a message is longer than may be sent.
pub record WearsOut (schedule : Schedule) (start : Run) : Type 0 where
  pub before : List Event
  pub early : length before < 100000000
  pub run : Run
  pub at : schedule.Standing
  pub led : Led schedule start before run at
  pub event : Event
  pub after : schedule.Standing
  pub due : schedule.Due run at event after
  pub wears : (event_on run event ≡ None) ⊎ ((next : Run) × (event_on run event ≡ Some next) × (sends_long next ≡ true))
