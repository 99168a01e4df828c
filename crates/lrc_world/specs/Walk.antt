-- A walk along the logs of a run.
use Rattle.std.specs.Prelude.{◌≡◌, ℕ, ◌+◌, ◌++◌, ◌&&◌, Bool, true, false, Option, Some, None, List, [], ◌∷◌, map, nat_lt}
use Rattle.std.specs.Prelude.{remove, slice_get, slice_set, if◌then◌else◌}
use Rattle.lrc_protocol.specs.declared.event.Event.{Event}
use Rattle.lrc_protocol.specs.declared.event.Event.TheVariants as events
use Rattle.lrc_protocol.specs.Follows.{come_of, next_entry}
use Rattle.lrc_protocol.specs.Run.{Input, EntryRecord}
use Rattle.lrc_protocol.specs.Run as log
use Rattle.lrc_world.specs.declared.turned.Turned.{Turned}

-- whether an input names the node
abbrev pub is_run : Input → Bool
is_run log.run = true
is_run (log.taken envelope) = false

-- whether a turn is one that its node made by itself
abbrev pub is_own : Option EntryRecord → Bool
is_own None = false
is_own (Some entry) = is_run entry.input

-- the node whose turn an event makes, where the messages in flight are known by their receivers
abbrev pub next_turner : List (List EntryRecord) → List ℕ → List ℕ → Event → Option ℕ
next_turner logs come flight (events.Run n) = if (nat_lt n 256 && is_own (next_entry logs come n)) then Some n else None
next_turner logs come flight (events.Deliver place) = slice_get flight place
next_turner logs come flight (events.Repeat place) = slice_get flight place

-- what an event leaves in flight, which makes a turn of this node, or of none
abbrev pub flight_after : List ℕ → Event → Option ℕ → List ℕ
flight_after flight event None = flight
flight_after flight (events.Run n) (Some node) = flight
flight_after flight (events.Deliver place) (Some node) = remove flight place
flight_after flight (events.Repeat place) (Some node) = flight

-- the receivers of the messages of a turn
abbrev pub receivers_of : Option EntryRecord → List ℕ
receivers_of None = []
receivers_of (Some entry) = map (λ envelope. envelope.to) entry.turn.out

-- how many turns of each node have come, with one more of a node that has one
abbrev pub come_after : List ℕ → ℕ → Option EntryRecord → List ℕ
come_after come n None = come
come_after come n (Some entry) = slice_set come n (come_of come n + 1)

-- how many turns of each node have come, after the next one of this node, if any
abbrev pub come_with : List (List EntryRecord) → List ℕ → Option ℕ → List ℕ
come_with logs come None = come
come_with logs come (Some n) = come_after come n (next_entry logs come n)

-- what is in flight after it
abbrev pub flight_with : List (List EntryRecord) → List ℕ → List ℕ → Option ℕ → List ℕ
flight_with logs come left None = left
flight_with logs come left (Some n) = left ++ receivers_of (next_entry logs come n)

-- Turns of all nodes lead through the logs, where so many of each node have come: each is the next one of its node's log, and behind the
-- last no log has one more.
abbrev pub Leads : List (List EntryRecord) → List ℕ → List Turned → Type 0
Leads logs come [] = (n : ℕ) → next_entry logs come n ≡ None
Leads logs come (turn ∷ more) =
    (entry : EntryRecord) × (next_entry logs come turn.node ≡ Some entry) × Leads logs (come_after come turn.node (Some entry)) more
