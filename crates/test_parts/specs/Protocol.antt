-- Worked runs of the protocol machine. Each node has a text of its own: the program with its conditions decided for that
-- node, each condition's Quiet act made by an assignment.
use Rattle.std.specs.Prelude.{ℕ, ◌==◌, if◌then◌else◌, length, Option, option_map, List, [], ◌∷◌, map, filter, flat_map, replicate}
use Rattle.std.specs.List.{enumerate_from}
use Rattle.lrc_program.specs.declared.Expression.TheVariants.{Number, Private}
use Rattle.lrc_program.specs.declared.Statement.{Statement}
use Rattle.lrc_program.specs.declared.Statement.TheVariants.{Assign, Read, Write, Acquire, Release, Barrier, Print}
use Rattle.lrc_trace.specs.declared.act.Deed.{Deed}
use Rattle.lrc_page.specs.declared.size.Size.TheVariants.{Words64}
use Rattle.lrc_page.specs.declared.changes.Change.{Change}
use Rattle.lrc_store.specs.declared.key.Key.{Key}
use Rattle.lrc_store.specs.Interval.{IntervalRecord}
use Rattle.lrc_envelope.specs.declared.message.Message.{Message}
use Rattle.lrc_envelope.specs.Records.{IndexedChangesRecord}
use Rattle.lrc_protocol.specs.declared.event.Event.{Event}
use Rattle.lrc_protocol.specs.declared.event.Event.TheVariants.{Run, Deliver, Repeat}
use Rattle.lrc_protocol.specs.Node.{Node, OptionsRecord, first_node}
use Rattle.lrc_protocol.specs.Follows.{turns_of, sent_in}
use Rattle.lrc_protocol.specs.Run.{World, world_of, played}

-- ---- texts

-- a condition that was decided
abbrev pub decided : Statement
decided = Assign 31 (Number 0)

abbrev pub reads : ℕ → Statement
reads word = Read 0 (Number word)

abbrev pub writes : ℕ → ℕ → Statement
writes word value = Write (Number word) (Number value)

abbrev pub acquires : ℕ → Statement
acquires lock = Acquire (Number lock)

abbrev pub releases : ℕ → Statement
releases lock = Release (Number lock)

-- what was read last is printed
abbrev pub prints : Statement
prints = Print (Private 0)

-- ---- events

-- so many times the same event
abbrev pub go : ℕ → ℕ → List Event
go node times = replicate times (Run node)

abbrev pub deliver : ℕ → ℕ → List Event
deliver place times = replicate times (Deliver place)

-- each message is delivered once more before it leaves the flight
abbrev pub twice : ℕ → List Event
twice times = flat_map (λ event. Repeat 0 ∷ event ∷ []) (deliver 0 times)

-- ---- runs

-- how a run is made: with pages of 64 words and as many steps as there may be
abbrev pub options_of : ℕ → ℕ → OptionsRecord
options_of collect first = record { steps = 1000000; collect = collect; first = first; size = Words64 }

-- nodes with these texts
abbrev pub nodes_of : OptionsRecord → ℕ → ℕ → List (List Statement) → List Node
nodes_of options words locks texts =
    map (λ text. first_node options (record { words = words; locks = locks; me = text.0; nodes = length texts }) text.1) (enumerate_from 0 texts)

-- their run of these events
abbrev pub run_of_texts : OptionsRecord → ℕ → ℕ → List (List Statement) → List (List Event) → Option World
run_of_texts options words locks texts events =
    played (world_of (nodes_of options words locks texts)) (flat_map (λ events. events) events)

-- ---- what is seen of a run

-- the acts, each with its node
abbrev pub deeds : Option World → Option (List (ℕ × Deed))
deeds run = option_map (λ world. map (λ act. (act.node, act.deed)) world.acts) run

-- the deeds of one node
abbrev pub deeds_by : ℕ → Option World → Option (List Deed)
deeds_by node run = option_map (λ world. map (λ act. act.deed) (filter (λ act. act.node == node) world.acts)) run

-- what one node sends another, in order
abbrev pub sent : ℕ → ℕ → Option World → Option (List Message)
sent from to run =
    option_map (λ world. map (λ e. e.message)
    (filter (λ e. e.to == to) (flat_map (λ place. if place.0 == from then sent_in (turns_of place.1.log) else []) (enumerate_from 0 world.nodes)))) run

-- how many messages were sent
abbrev pub messages : Option World → Option ℕ
messages run = option_map (λ world. length (flat_map (λ l. sent_in (turns_of l.log)) world.nodes)) run

-- what of each node is seen at the end of a run
abbrev pub of_nodes : {X : Type 0} → (Node → X) → Option World → Option (List X)
of_nodes seen run = option_map (λ world. map (λ l. seen l.node) world.nodes) run

-- an interval, a key of a page 0, and changes of one word
abbrev pub interval : ℕ → List ℕ → List ℕ → IntervalRecord
interval node stamp pages = record { node = node; stamp = stamp; pages = pages }

abbrev pub key : ℕ → ℕ → Key
key node index = record { node = node; index = index; page = 0 }

abbrev pub part : ℕ → List Change → IndexedChangesRecord
part index changes = record { index = index; changes = changes }

abbrev pub change : ℕ → ℕ → Change
change offset value = record { offset = offset; value = value }

-- ---- the runs

-- `if me == 0 { [0] = 7; } barrier; x = [0]; print x;` on three nodes, the oldest message first
abbrev pub barrier_run : Option World
barrier_run =
    run_of_texts (options_of 0 0) 1 0
    (
    (decided ∷ writes 0 7 ∷ Barrier ∷ reads 0 ∷ prints ∷ []) ∷
    (decided ∷ Barrier ∷ reads 0 ∷ prints ∷ []) ∷
    (decided ∷ Barrier ∷ reads 0 ∷ prints ∷ []) ∷
    [])
    (
    go 0 1 ∷ go 1 1 ∷ go 2 1 ∷ go 0 1 ∷ go 1 1 ∷ go 2 1 ∷ deliver 0 2 ∷ go 0 1 ∷ deliver 0 4 ∷ go 0 1 ∷
    go 1 1 ∷ go 2 1 ∷ deliver 0 2 ∷ go 0 1 ∷ deliver 0 2 ∷ go 0 1 ∷ go 1 1 ∷ go 2 1 ∷ go 1 1 ∷ go 2 1 ∷ [])

-- the holder writes once more after its release, before it grants the lock
abbrev pub late_grant_run : Option World
late_grant_run =
    run_of_texts (options_of 0 0) 2 1
    (
    (decided ∷ acquires 0 ∷ writes 0 1 ∷ releases 0 ∷ writes 1 2 ∷ []) ∷
    (decided ∷ acquires 0 ∷ reads 0 ∷ reads 1 ∷ releases 0 ∷ prints ∷ []) ∷
    [])
    (
    go 0 5 ∷ go 1 2 ∷ deliver 0 3 ∷ go 1 1 ∷ deliver 0 2 ∷ go 1 4 ∷ go 0 1 ∷ [])

-- the same, each message delivered twice
abbrev pub repeated_run : Option World
repeated_run =
    run_of_texts (options_of 0 0) 2 1
    (
    (decided ∷ acquires 0 ∷ writes 0 1 ∷ releases 0 ∷ writes 1 2 ∷ []) ∷
    (decided ∷ acquires 0 ∷ reads 0 ∷ reads 1 ∷ releases 0 ∷ prints ∷ []) ∷
    [])
    (
    go 0 5 ∷ go 1 2 ∷ twice 3 ∷ go 1 1 ∷ twice 2 ∷ go 1 4 ∷ go 0 1 ∷ [])

-- a write reaches a third node by two grants
abbrev pub third_node_run : Option World
third_node_run =
    run_of_texts (options_of 0 0) 1 2
    (
    (decided ∷ acquires 0 ∷ writes 0 3 ∷ releases 0 ∷ decided ∷ decided ∷ []) ∷
    (decided ∷ decided ∷ acquires 0 ∷ releases 0 ∷ acquires 1 ∷ releases 1 ∷ decided ∷ []) ∷
    (decided ∷ decided ∷ decided ∷ acquires 1 ∷ reads 0 ∷ releases 1 ∷ prints ∷ []) ∷
    [])
    (
    go 0 7 ∷ go 1 3 ∷ deliver 0 3 ∷ go 1 5 ∷ go 2 4 ∷ deliver 0 3 ∷ go 2 1 ∷ deliver 0 2 ∷ go 2 3 ∷ [])

-- a page that was written, with nothing changed in it
abbrev pub silent_run : Option World
silent_run =
    run_of_texts (options_of 0 0) 1 0
    (
    (decided ∷ writes 0 9 ∷ writes 0 0 ∷ Barrier ∷ reads 0 ∷ prints ∷ []) ∷
    (decided ∷ Barrier ∷ reads 0 ∷ prints ∷ []) ∷
    [])
    (
    go 0 1 ∷ go 1 1 ∷ go 0 1 ∷ go 1 1 ∷ go 0 1 ∷ deliver 0 1 ∷ go 0 1 ∷ deliver 0 3 ∷ go 0 1 ∷ go 1 1 ∷
    deliver 0 1 ∷ go 0 1 ∷ deliver 0 1 ∷ go 1 2 ∷ [])

-- three nodes write one word, one after another, each in an episode of its own
abbrev pub repair_run : Option World
repair_run =
    run_of_texts (options_of 0 0) 1 0
    (
    (decided ∷ Barrier ∷ decided ∷ Barrier ∷ decided ∷ writes 0 10 ∷ Barrier ∷ reads 0 ∷ prints ∷ []) ∷
    (decided ∷ Barrier ∷ decided ∷ writes 0 11 ∷ Barrier ∷ decided ∷ Barrier ∷ reads 0 ∷ prints ∷ []) ∷
    (decided ∷ writes 0 12 ∷ Barrier ∷ decided ∷ Barrier ∷ decided ∷ Barrier ∷ reads 0 ∷ prints ∷ []) ∷
    (decided ∷ Barrier ∷ decided ∷ Barrier ∷ decided ∷ Barrier ∷ reads 0 ∷ prints ∷ []) ∷
    [])
    (
    go 0 1 ∷ go 1 1 ∷ go 2 1 ∷ go 3 1 ∷ go 0 1 ∷ go 1 1 ∷ go 2 1 ∷ go 3 1 ∷ deliver 0 3 ∷ go 2 1 ∷
    deliver 0 5 ∷ go 0 1 ∷ go 1 1 ∷ go 2 1 ∷ go 3 1 ∷ go 0 1 ∷ go 1 1 ∷ go 2 1 ∷ go 3 1 ∷ deliver 0 5 ∷
    go 1 1 ∷ deliver 0 5 ∷ go 0 1 ∷ go 1 1 ∷ go 2 1 ∷ go 3 1 ∷ go 0 1 ∷ go 1 1 ∷ go 2 1 ∷ go 3 1 ∷
    deliver 0 7 ∷ go 0 1 ∷ deliver 0 5 ∷ go 0 1 ∷ go 1 1 ∷ go 2 1 ∷ go 3 1 ∷ deliver 0 6 ∷ go 0 1 ∷
    deliver 0 6 ∷ go 0 1 ∷ go 1 1 ∷ go 2 1 ∷ go 3 1 ∷ go 1 1 ∷ go 2 1 ∷ go 3 1 ∷ [])

-- the same up to the last departures: nobody has read yet
abbrev pub unread_run : Option World
unread_run =
    run_of_texts (options_of 0 0) 1 0
    (
    (decided ∷ Barrier ∷ decided ∷ Barrier ∷ decided ∷ writes 0 10 ∷ Barrier ∷ reads 0 ∷ []) ∷
    (decided ∷ Barrier ∷ decided ∷ writes 0 11 ∷ Barrier ∷ decided ∷ Barrier ∷ reads 0 ∷ []) ∷
    (decided ∷ writes 0 12 ∷ Barrier ∷ decided ∷ Barrier ∷ decided ∷ Barrier ∷ reads 0 ∷ []) ∷
    (decided ∷ Barrier ∷ decided ∷ Barrier ∷ decided ∷ Barrier ∷ reads 0 ∷ []) ∷
    [])
    (
    go 0 1 ∷ go 1 1 ∷ go 2 1 ∷ go 3 1 ∷ go 0 1 ∷ go 1 1 ∷ go 2 1 ∷ go 3 1 ∷ deliver 0 3 ∷ go 2 1 ∷ deliver 0 5 ∷
    go 0 1 ∷ go 1 1 ∷ go 2 1 ∷ go 3 1 ∷ go 0 1 ∷ go 1 1 ∷ go 2 1 ∷ go 3 1 ∷ deliver 0 5 ∷ go 1 1 ∷ deliver 0 5 ∷
    go 0 1 ∷ go 1 1 ∷ go 2 1 ∷ go 3 1 ∷ go 0 1 ∷ go 1 1 ∷ go 2 1 ∷ go 3 1 ∷ deliver 0 7 ∷ go 0 1 ∷ deliver 0 5 ∷ [])

-- a collection in which the keeper of the page fetches what another node changed in it
abbrev pub collecting_run : Option World
collecting_run =
    run_of_texts (options_of 3 0) 3 2
    (
    (decided ∷ decided ∷ Barrier ∷ decided ∷ writes 1 6 ∷ Barrier ∷ reads 0 ∷ reads 1 ∷ reads 2 ∷ prints ∷ []) ∷
    (decided ∷ acquires 1 ∷ releases 1 ∷ writes 0 4 ∷ decided ∷ Barrier ∷ decided ∷ Barrier ∷ reads 0 ∷ reads 1 ∷ reads 2 ∷ prints ∷ []) ∷
    (decided ∷ decided ∷ writes 2 8 ∷ Barrier ∷ decided ∷ Barrier ∷ reads 0 ∷ reads 1 ∷ reads 2 ∷ prints ∷ []) ∷
    [])
    (
    go 0 1 ∷ go 1 1 ∷ go 2 1 ∷ go 0 1 ∷ go 1 1 ∷ go 2 1 ∷ go 0 1 ∷ go 1 1 ∷ go 2 1 ∷ deliver 0 1 ∷ go 1 1 ∷
    go 2 1 ∷ deliver 0 1 ∷ go 1 2 ∷ deliver 0 12 ∷ go 0 1 ∷ go 1 1 ∷ go 2 1 ∷ go 0 1 ∷ go 1 1 ∷ go 2 1 ∷
    deliver 0 4 ∷ go 0 1 ∷ deliver 0 4 ∷ go 0 1 ∷ go 1 1 ∷ go 2 1 ∷ deliver 0 3 ∷ go 0 1 ∷ deliver 0 3 ∷
    go 0 1 ∷ go 1 1 ∷ go 2 1 ∷ go 0 1 ∷ go 1 1 ∷ go 2 1 ∷ go 0 1 ∷ go 1 1 ∷ go 2 1 ∷ go 0 1 ∷ go 1 1 ∷
    go 2 1 ∷ go 0 1 ∷ go 1 1 ∷ go 2 1 ∷ go 1 1 ∷ go 2 1 ∷ [])

-- the same up to the end of the collection
abbrev pub collected_run : Option World
collected_run =
    run_of_texts (options_of 3 0) 3 2
    (
    (decided ∷ decided ∷ Barrier ∷ decided ∷ writes 1 6 ∷ Barrier ∷ reads 0 ∷ reads 1 ∷ reads 2 ∷ prints ∷ []) ∷
    (decided ∷ acquires 1 ∷ releases 1 ∷ writes 0 4 ∷ decided ∷ Barrier ∷ decided ∷ Barrier ∷ reads 0 ∷ reads 1 ∷ reads 2 ∷ prints ∷ []) ∷
    (decided ∷ decided ∷ writes 2 8 ∷ Barrier ∷ decided ∷ Barrier ∷ reads 0 ∷ reads 1 ∷ reads 2 ∷ prints ∷ []) ∷
    [])
    (
    go 0 1 ∷ go 1 1 ∷ go 2 1 ∷ go 0 1 ∷ go 1 1 ∷ go 2 1 ∷ go 0 1 ∷ go 1 1 ∷ go 2 1 ∷ deliver 0 1 ∷ go 1 1 ∷
    go 2 1 ∷ deliver 0 1 ∷ go 1 2 ∷ deliver 0 12 ∷ [])

-- `if me == 1 { [0] = 5; } barrier; x = [0]; print x;` on three nodes, with a collection
abbrev pub counted_run : Option World
counted_run =
    run_of_texts (options_of 1 0) 1 0
    (
    (decided ∷ Barrier ∷ reads 0 ∷ prints ∷ []) ∷
    (decided ∷ writes 0 5 ∷ Barrier ∷ reads 0 ∷ prints ∷ []) ∷
    (decided ∷ Barrier ∷ reads 0 ∷ prints ∷ []) ∷
    [])
    (
    go 0 1 ∷ go 1 1 ∷ go 2 1 ∷ go 0 1 ∷ go 1 1 ∷ go 2 1 ∷ deliver 0 2 ∷ go 1 1 ∷ deliver 0 10 ∷ go 0 1 ∷
    go 1 1 ∷ go 2 1 ∷ deliver 0 2 ∷ go 1 1 ∷ deliver 0 2 ∷ go 0 1 ∷ go 1 1 ∷ go 2 1 ∷ go 0 1 ∷ go 2 1 ∷ [])

-- and with none
abbrev pub uncollected_run : Option World
uncollected_run =
    run_of_texts (options_of 0 0) 1 0
    (
    (decided ∷ Barrier ∷ reads 0 ∷ prints ∷ []) ∷
    (decided ∷ writes 0 5 ∷ Barrier ∷ reads 0 ∷ prints ∷ []) ∷
    (decided ∷ Barrier ∷ reads 0 ∷ prints ∷ []) ∷
    [])
    (
    go 0 1 ∷ go 1 1 ∷ go 2 1 ∷ go 0 1 ∷ go 1 1 ∷ go 2 1 ∷ deliver 0 2 ∷ go 1 1 ∷ deliver 0 10 ∷ go 0 1 ∷
    go 1 1 ∷ go 2 1 ∷ deliver 0 4 ∷ go 0 2 ∷ go 1 2 ∷ go 2 2 ∷ [])

-- a grant is repeated after its lock went on to another node
abbrev pub late_repeat_run : Option World
late_repeat_run =
    run_of_texts (options_of 0 0) 1 1
    (
    (decided ∷ decided ∷ []) ∷
    (decided ∷ acquires 0 ∷ reads 0 ∷ writes 0 1 ∷ releases 0 ∷ decided ∷ acquires 0 ∷ reads 0 ∷ releases 0 ∷ prints ∷ []) ∷
    (decided ∷ acquires 0 ∷ reads 0 ∷ writes 0 2 ∷ releases 0 ∷ decided ∷ []) ∷
    [])
    (
    go 1 2 ∷ deliver 0 2 ∷ (Repeat 0 ∷ []) ∷ go 2 2 ∷ deliver 1 2 ∷ go 1 3 ∷ deliver 1 1 ∷ deliver 0 1 ∷
    go 1 2 ∷ go 2 1 ∷ deliver 1 2 ∷ go 2 2 ∷ deliver 0 3 ∷ go 1 1 ∷ deliver 0 2 ∷ go 1 3 ∷ go 2 2 ∷ go 0 3 ∷ [])

-- the second message of node 0 to itself would have a number too large
abbrev pub worn_run : Option World
worn_run =
    run_of_texts (options_of 0 4294967295) 1 0
    (
    (decided ∷ writes 0 7 ∷ Barrier ∷ reads 0 ∷ prints ∷ []) ∷
    (decided ∷ Barrier ∷ reads 0 ∷ prints ∷ []) ∷
    [])
    (
    go 0 3 ∷ go 1 2 ∷ deliver 0 2 ∷ [])
