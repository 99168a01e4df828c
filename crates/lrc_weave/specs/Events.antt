-- What makes the event of one turn.
use Rattle.std.specs.Prelude.{◌≡◌, ℕ, ◌+◌, ◌==◌, ◌&&◌, Bool, true, false, Some, None, List, ◌++◌, map, drop, remove, position, slice_get}
use Rattle.std.specs.Option.{option_to_list}
use Rattle.lrc_trace.specs.declared.act.Act.{Act}
use Rattle.lrc_envelope.specs.Envelope.{EnvelopeRecord}
use Rattle.lrc_protocol.specs.declared.event.Event.{Event}
use Rattle.lrc_protocol.specs.declared.event.Event.TheVariants.{Run, Deliver, Repeat}
use Rattle.lrc_protocol.specs.Run.{Input, run, taken, EntryRecord}
use Rattle.lrc_weave.specs.declared.events.MessageName.{MessageName}
use Rattle.lrc_weave.specs.Again.{is_again}

-- what a message is known by
abbrev pub message_name : EnvelopeRecord → MessageName
message_name envelope = record { from = envelope.from; to = envelope.to; number = envelope.number }

-- whether a message is known by this
abbrev pub has_name : EnvelopeRecord → MessageName → Bool
has_name envelope name = (name.from == envelope.from) && ((name.to == envelope.to) && (name.number == envelope.number))

-- the event that takes a message at a place, for the last time or not
abbrev pub event_taking : Bool → ℕ → Event
event_taking true place = Repeat place
event_taking false place = Deliver place

-- what is left in flight then
abbrev pub names_left : Bool → ℕ → List MessageName → List MessageName
names_left true place flight = flight
names_left false place flight = remove flight place

-- a message is taken from flight by this event
abbrev pub IsTakenFrom : List MessageName → EnvelopeRecord → Bool → List MessageName → Event → Type 0
IsTakenFrom old envelope again new event =
    (place : ℕ) × (position (has_name envelope) old ≡ Some place) × (event ≡ event_taking again place) × (new ≡ names_left again place old)

-- an input of a node, which is made again later or not, is made by this event
abbrev pub IsMadeByEvent : ℕ → Bool → List MessageName → Input → List MessageName → Event → Type 0
IsMadeByEvent node again old run new event = (event ≡ Run node) × (new ≡ old)
IsMadeByEvent node again old (taken envelope) new event = IsTakenFrom old envelope again new event

-- an input takes a message that is not in flight
abbrev pub LacksMessage : List MessageName → Input → Type 0
LacksMessage flight run = ⊥
LacksMessage flight (taken envelope) = position (has_name envelope) flight ≡ None

-- the turn at a place of a log does
abbrev pub IsUnsent : List EntryRecord → ℕ → List MessageName → Type 0
IsUnsent log place flight = (entry : EntryRecord) × (slice_get log place ≡ Some entry) × LacksMessage flight entry.input

-- the turn at a place of a node's log is made by this event, and its messages are in flight then
abbrev pub IsTurnOf : ℕ → List EntryRecord → ℕ → List MessageName → List MessageName → Event → Type 0
IsTurnOf node log place old new event = (entry : EntryRecord) × (left : List MessageName) × (slice_get log place ≡ Some entry)
    × IsMadeByEvent node (is_again entry.input (drop (place + 1) log)) old entry.input left event × (new ≡ left ++ map message_name entry.turn.out)

-- the act of the turn at a place of a log is added, if that made one
abbrev pub NotesTurn : List EntryRecord → ℕ → List Act → List Act → Type 0
NotesTurn log place old new = (entry : EntryRecord) × (slice_get log place ≡ Some entry) × (new ≡ old ++ option_to_list entry.turn.act)
