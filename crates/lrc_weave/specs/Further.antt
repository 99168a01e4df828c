-- One turn more than logs have.
use Rattle.std.specs.Prelude.{◌≡◌, ℕ, Bool, Some, None, List, [], ◌∷◌, ◌++◌, position}
use Rattle.lrc_envelope.specs.Envelope.{EnvelopeRecord}
use Rattle.lrc_protocol.specs.declared.event.Event.{Event}
use Rattle.lrc_protocol.specs.declared.event.Event.TheVariants.{Run, Deliver}
use Rattle.lrc_protocol.specs.Run.{Input, run, taken, EntryRecord, Flying}
use Rattle.lrc_weave.specs.Events.{message_name, has_name}
use Rattle.lrc_weave.specs.Woven.{AreWoven}

-- whether a message in flight is this one: it has the same sender, receiver and number
abbrev pub is_this : EnvelopeRecord → Flying → Bool
is_this envelope flying = has_name envelope (message_name flying.envelope)

-- The event that makes one turn more by an input, where these messages are in flight: a Run of this node; or the delivery of the
-- message, which makes a turn of its receiver, whatever node this is.
abbrev pub MakesFurther : ℕ → List Flying → Input → Event → Type 0
MakesFurther node flight run event = event ≡ Run node
MakesFurther node flight (taken envelope) event = (place : ℕ) × (position (is_this envelope) flight ≡ Some place) × (event ≡ Deliver place)

-- there is none: the input is a message that is not in flight
abbrev pub LacksFurther : List Flying → Input → Type 0
LacksFurther flight run = ⊥
LacksFurther flight (taken envelope) = position (is_this envelope) flight ≡ None

-- these events make all turns of the logs, and behind them the last one makes one turn more, by an input: of this node, or of the
-- message's receiver
abbrev pub AreWovenWith : List (List EntryRecord) → ℕ → Input → List Event → Type 0
AreWovenWith logs node input events = (before : List Event) × (flight : List Flying) × (event : Event) × AreWoven logs before flight
    × MakesFurther node flight input event × (events ≡ before ++ event ∷ [])

-- behind the events that make all turns of the logs, none makes a turn more by this input
abbrev pub AreWovenWithout : List (List EntryRecord) → Input → Type 0
AreWovenWithout logs input = (before : List Event) × (flight : List Flying) × AreWoven logs before flight × LacksFurther flight input
