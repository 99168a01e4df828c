-- Events by which the nodes make acts in a given order, where all messages are delivered before a node goes on.
use Rattle.std.specs.Prelude.{◌≡◌, ◌⊎◌, ◌≤◌, ℕ, Option, Some, None, List, [], ◌∷◌, ◌++◌, length, slice_get, take}
use Rattle.lrc_program.specs.declared.Program.{Program}
use Rattle.lrc_trace.specs.declared.act.Act.{Act}
use Rattle.lrc_protocol.specs.declared.event.Event.{Event}
use Rattle.lrc_protocol.specs.declared.event.Event.TheVariants.{Deliver, Run}
use Rattle.lrc_protocol.specs.Node.{OptionsRecord}
use Rattle.lrc_protocol.specs.Run.{Flying, World, event_on, run_of}
use Rattle.lrc_replay.specs.Turns.{Turn, turn_by}
use Rattle.lrc_along.specs.declared.limit.TheConstants.{MOST_EVENTS}

-- the event that is due: the oldest message is delivered, if one is in flight; else the node of the next act goes on
abbrev pub due_event : List Flying → (next : Option Act) → Option Event
due_event (sent ∷ flight) next = Some (Deliver 0)
due_event [] None = None
due_event [] (Some act) = Some (Run act.node)

-- the same in a world in which the first acts of an order are made
abbrev pub event_due : (order : List Act) → World → Option Event
event_due order world = due_event world.flight (slice_get order (length world.acts))

-- each of these events is due in the run of those before it
abbrev pub AreAllDue : Program → ℕ → OptionsRecord → (order : List Act) → List Event → Type 0
AreAllDue program nodes options order events =
    (before after : List Event) (event : Event) (world : World) → events ≡ before ++ event ∷ after → run_of program nodes options before ≡ Some world
    → event_due order world ≡ Some event

-- an act, if there is one, is that of the order at this place
abbrev pub IsNext : (order : List Act) → (place : ℕ) → Option Act → Type 0
IsNext order place None = Unit {0}
IsNext order place (Some act) = slice_get order place ≡ Some act

-- the event makes a turn, whose act, if it makes one, is the next of the order
abbrev pub GoesOn : (order : List Act) → World → Event → Type 0
GoesOn order world event = (turn : Turn) × (turn_by world event ≡ turn ∷ []) × IsNext order (length world.acts) turn.made.act

-- Why no event follows:
pub data Ends (order : List Act) (world : World) : Type 0 where
  -- all acts are made, and no message is in flight;
  whole : event_due order world ≡ None → Ends order world
  -- or what is due leads away from the order
  astray : (event : Event) → event_due order world ≡ Some event → ((next : World) → event_on world event ≡ Some next → ¬ GoesOn order world event)
      → Ends order world

-- Each event is due. Their run makes the first acts of the order, and no event follows, or there are as many as there may be.
pub record MakesInTurn (program : Program) (nodes : ℕ) (options : OptionsRecord) (order : List Act) (events : List Event) : Type 0 where
  pub due : AreAllDue program nodes options order events
  pub made : (world : World) → run_of program nodes options events ≡ Some world → world.acts ≡ take (length world.acts) order
  pub ends : (world : World) → run_of program nodes options events ≡ Some world → Ends order world ⊎ (MOST_EVENTS ≤ length events)
