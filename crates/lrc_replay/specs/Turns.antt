-- The turns that the events of a run make, each with the world before it.
use Rattle.std.specs.Prelude.{ℕ, Bool, false, Option, None, Some, List, [], ◌∷◌, ◌++◌, slice_get}
use Rattle.lrc_program.specs.declared.Program.{Program}
use Rattle.lrc_protocol.specs.declared.event.Event.{Event}
use Rattle.lrc_protocol.specs.declared.event.Event.TheVariants as events
use Rattle.lrc_protocol.specs.Node.{Node, OptionsRecord}
use Rattle.lrc_protocol.specs.Turn.{done, is_repeat, not_ready, Outcome, TurnRecord, unexpected, worn}
use Rattle.lrc_protocol.specs.Run.{event_on, Flying, fresh_world, Input, Logged, outcome_of, World}
use Rattle.lrc_protocol.specs.Run as log

-- a turn: the world before it, its event, the node that makes it and by which input, what that node does, and the node after it
pub record Turn : Type 0 where
  pub before : World
  pub event : Event
  pub node : ℕ
  pub input : Input
  pub made : TurnRecord
  pub after : Node

-- the turn, where what comes of an input is one
abbrev pub turn_done : World → Event → (node : ℕ) → Input → Outcome → List Turn
turn_done world event node input (done turn after) =
    record { before = world; event = event; node = node; input = input; made = turn; after = after } ∷ []
turn_done world event node input not_ready = []
turn_done world event node input unexpected = []
turn_done world event node input worn = []

-- the same of an input to a node, where there is such a node
abbrev pub turn_with : World → Event → (node : ℕ) → Input → Option Logged → List Turn
turn_with world event node input None = []
turn_with world event node input (Some l) = turn_done world event node input (outcome_of l.node input)

-- the turn in which a message is taken, where it is there and its receiver takes it
abbrev pub turn_taking : World → Event → Option Flying → List Turn
turn_taking world event None = []
turn_taking world event (Some sent) =
    turn_with world event sent.envelope.to (log.taken sent.envelope) (slice_get world.nodes sent.envelope.to)

-- the turn that an event makes; none where the event is skipped
abbrev pub turn_by : World → Event → List Turn
turn_by world (events.Run n) = turn_with world (events.Run n) n log.run (slice_get world.nodes n)
turn_by world (events.Deliver place) = turn_taking world (events.Deliver place) (slice_get world.flight place)
turn_by world (events.Repeat place) = turn_taking world (events.Repeat place) (slice_get world.flight place)

-- the turns that events make, from a world on
abbrev pub turns_from : Option World → List Event → List Turn
turns_from run [] = []
turns_from None (event ∷ more) = []
turns_from (Some world) (event ∷ more) = turn_by world event ++ turns_from (event_on world event) more

-- those of a program's run
abbrev pub turns_of : Program → (nodes : ℕ) → OptionsRecord → List Event → List Turn
turns_of program nodes options events = turns_from (Some (fresh_world program nodes options)) events

-- whether a node takes a message that it took before
abbrev pub is_again : Option Logged → Input → Bool
is_again None input = false
is_again (Some l) log.run = false
is_again (Some l) (log.taken envelope) = is_repeat l.node envelope
