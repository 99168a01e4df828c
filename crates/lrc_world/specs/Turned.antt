-- The turns that the events of a run make, and the nodes that make them.
use Rattle.std.specs.Prelude.{◌≡◌, ℕ, Option, Some, None, List, [], ◌∷◌, ◌++◌, map, slice_get}
use Rattle.lrc_program.specs.declared.Program.{Program}
use Rattle.lrc_protocol.specs.declared.event.Event.{Event}
use Rattle.lrc_protocol.specs.declared.event.Event.TheVariants as events
use Rattle.lrc_protocol.specs.Node.{OptionsRecord}
use Rattle.lrc_protocol.specs.Run.{Input, EntryRecord, Logged, Logging, logs, World as Run, Flying as Sent, event_on, fresh_world, run_of}
use Rattle.lrc_protocol.specs.Run as log
use Rattle.lrc_world.specs.declared.keep.Keep.{Keep}
use Rattle.lrc_world.specs.declared.keep.Keep.TheVariants.{All, Newest, Turns}
use Rattle.lrc_world.specs.declared.turned.Turned.{Turned}

-- the node, where what came of an input to it is a turn
abbrev pub node_if : ℕ → Logging → Option ℕ
node_if n (log.logged entry after) = Some n
node_if n log.refused = None
node_if n log.too_large = None

-- the node, where it is there and an input to it makes a turn
abbrev pub node_by : ℕ → Input → ℕ → Option Logged → Option ℕ
node_by n input came None = None
node_by n input came (Some l) = node_if n (logs l input came)

-- the receiver of a message, where there is one and it takes it
abbrev pub taker : Run → Option Sent → Option ℕ
taker world None = None
taker world (Some sent) =
    node_by sent.envelope.to (log.taken sent.envelope) sent.stamp (slice_get world.nodes sent.envelope.to)

-- the node whose turn an event makes; none where the event is skipped
abbrev pub turner : Run → Event → Option ℕ
turner world (events.Run n) = node_by n log.run 0 (slice_get world.nodes n)
turner world (events.Deliver place) = taker world (slice_get world.flight place)
turner world (events.Repeat place) = taker world (slice_get world.flight place)

-- an event with the node whose turn it makes, if it makes one
abbrev pub turned_by : Event → Option ℕ → List Turned
turned_by event None = []
turned_by event (Some node) = record { event = event; node = node } ∷ []

-- those of some events, from a world on, that are not skipped
abbrev pub turned_from : Option Run → List Event → List Turned
turned_from run [] = []
turned_from None (event ∷ more) = []
turned_from (Some world) (event ∷ more) = turned_by event (turner world event) ++ turned_from (event_on world event) more

-- those of a program's run
abbrev pub turned_of : Program → ℕ → OptionsRecord → List Event → List Turned
turned_of program nodes options events = turned_from (Some (fresh_world program nodes options)) events

-- what is kept of something that is kept only where all of a run is
abbrev pub when_all : {A : Type 0} → Keep → List A → List A
when_all All items = items
when_all Turns items = []
when_all Newest items = []

-- the events that made turns
abbrev pub events_in : List Turned → List Event
events_in turned = map (λ turn. turn.event) turned

-- none of some events, from a world on, is skipped
abbrev pub AreTurnedFrom : Run → List Event → Type 0
AreTurnedFrom start events = events_in (turned_from (Some start) events) ≡ events

-- no event of a program's run is skipped
abbrev pub AreAllTurned : Program → ℕ → OptionsRecord → List Event → Type 0
AreAllTurned program nodes options events = events_in (turned_of program nodes options events) ≡ events

-- a program's run of these events has these logs
abbrev pub HaveLogs : Program → ℕ → OptionsRecord → List Event → List (List EntryRecord) → Type 0
HaveLogs program nodes options events logs =
    (world : Run) × (run_of program nodes options events ≡ Some world) × (map (λ l. l.log) world.nodes ≡ logs)
