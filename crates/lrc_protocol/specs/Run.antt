-- The run: a node with the log of its turns, which depend on its own inputs alone; and all nodes with the messages in flight,
-- what each event does, and the run of a list of events.
use Rattle.std.specs.Prelude.{[], ℕ, ◌++◌, ◌+◌, ◌==◌, ◌∷◌, Bool, false, fold, if◌then◌else◌, List, map, max, nat_le}
use Rattle.std.specs.Prelude.{None, Option, remove, slice_get, slice_set, Some, true, Vec}
use Rattle.std.specs.declared.alloc.Global.{Global}
use Rattle.std.specs.Option.{option_to_list}
use Rattle.std.specs.List.{enumerate_from, range_with_len}
use Rattle.lrc_program.specs.declared.Program.{Program}
use Rattle.lrc_trace.specs.declared.act.Act.{Act}
use Rattle.lrc_envelope.specs.Envelope.{EnvelopeRecord}
use Rattle.lrc_protocol.specs.Node.{fresh_node, Node, OptionsRecord}
use Rattle.lrc_protocol.specs.Turn.{done, not_ready, Outcome, run_turn, take_turn, TurnRecord, unexpected, worn}
use Rattle.lrc_protocol.specs.declared.event.Event.{Event}
use Rattle.lrc_protocol.specs.declared.event.Event.TheVariants.{Deliver, Repeat, Run}

-- ---- a node with its log

-- what makes a turn: a Run names the node, or a message is delivered
pub data Input : Type 0 where
  run : Input
  taken : EnvelopeRecord → Input

-- An input, its turn, and the turn's stamp: a number that is greater than those of all turns that it follows (Lamport 1978).
-- An interval's stamp is another thing, a vector time.
pub record EntryRecord : Type 0 where
  pub input : Input
  pub stamp : ℕ
  pub turn : TurnRecord

-- the turns of logs as they are kept
abbrev pub turns_of_logs : List (Vec EntryRecord Global) → List (List EntryRecord)
turns_of_logs logs = map (λ log. log.items) logs

-- a node, and its turns so far
pub record Logged : Type 0 where
  pub node : Node
  pub log : List EntryRecord

-- the largest stamp
abbrev pub MOST_STAMP : ℕ
MOST_STAMP = 18446744073709551615

-- what comes of an input
abbrev pub outcome_of : Node → Input → Outcome
outcome_of node run = run_turn node
outcome_of node (taken envelope) = take_turn node envelope

-- the stamp of the newest turn, 0 before any
abbrev pub last_stamp : List EntryRecord → ℕ
last_stamp log = fold (λ before entry. entry.stamp) 0 log

-- a turn's stamp: one more than the greater of the node's last one and of the one that came with the message
abbrev pub next_stamp : List EntryRecord → ℕ → ℕ
next_stamp log came = max (last_stamp log) came + 1

-- What comes of an input to a node with its log: the node with one entry more; nothing; or a number or stamp too large.
pub data Logging : Type 0 where
  logged : EntryRecord → Logged → Logging
  refused : Logging
  too_large : Logging

-- a turn with its stamp
abbrev pub entered : Input → ℕ → List EntryRecord → TurnRecord → Node → Logging
entered input stamp log turn node =
    if nat_le stamp MOST_STAMP
    then (let entry : EntryRecord = record { input = input; stamp = stamp; turn = turn } in logged entry (record { node = node; log = log ++ entry ∷ [] }))
    else too_large

-- the log after an outcome
abbrev pub logging : Input → ℕ → List EntryRecord → Outcome → Logging
logging input stamp log (done turn node) = entered input stamp log turn node
logging input stamp log not_ready = refused
logging input stamp log unexpected = refused
logging input stamp log worn = too_large

-- an input to a node with its log; a message comes with the stamp of the turn that sent it, a Run with 0
abbrev pub logs : Logged → Input → ℕ → Logging
logs l input came = logging input (next_stamp l.log came) l.log (outcome_of l.node input)

-- ---- all nodes

-- a message in flight, with the stamp of the turn that sent it, and whether it was delivered already (only a schedule looks at
-- that)
pub record Flying : Type 0 where
  pub envelope : EnvelopeRecord
  pub stamp : ℕ
  pub delivered : Bool

-- the nodes with their logs; the messages in flight, oldest first; the acts so far, and for each the time of its node just
-- after it
pub record World : Type 0 where
  pub nodes : List Logged
  pub flight : List Flying
  pub acts : List Act
  pub times : List (List ℕ)

-- these nodes before their first turn
abbrev pub world_of : List Node → World
world_of nodes = record {
  nodes = map (λ node. record { node = node; log = [] }) nodes;
  flight = [];
  acts = [];
  times = [];
}

-- all nodes at the beginning of a program
abbrev pub fresh_world : Program → ℕ → OptionsRecord → World
fresh_world program nodes options = world_of (map (fresh_node program nodes options) (range_with_len 0 nodes))

-- the messages of a turn, in flight
abbrev pub sent_by : EntryRecord → List Flying
sent_by entry = map (λ envelope. record { envelope = envelope; stamp = entry.stamp; delivered = false }) entry.turn.out

-- the world after a node's turn, with the messages that were in flight when it made it
abbrev pub with_turn : World → List Flying → ℕ → EntryRecord → Logged → World
with_turn world flight n entry l = record {
  nodes = slice_set world.nodes n l;
  flight = flight ++ sent_by entry;
  acts = world.acts ++ option_to_list entry.turn.act;
  times = world.times ++ map (λ act. l.node.locks.time) (option_to_list entry.turn.act);
}

-- the world after what came of an input to a node: a refused one changes nothing, and none is left of a run where a number
-- would be too large
abbrev pub after_input : World → List Flying → ℕ → Logging → Option World
after_input world flight n (logged entry l) = Some (with_turn world flight n entry l)
after_input world flight n refused = Some world
after_input world flight n too_large = None

-- the world after an input to a node, with the messages that are in flight then; nothing changes where there is no such node
abbrev pub input_to : World → List Flying → ℕ → Input → ℕ → Option Logged → Option World
input_to world flight n input stamp None = Some world
input_to world flight n input stamp (Some l) = after_input world flight n (logs l input stamp)

abbrev pub with_input : World → List Flying → ℕ → Input → ℕ → Option World
with_input world flight n input stamp = input_to world flight n input stamp (slice_get world.nodes n)

-- a message is delivered to its receiver, with the messages that are in flight then; nothing where there is none
abbrev pub delivers : World → List Flying → Option Flying → Option World
delivers world flight None = Some world
delivers world flight (Some flying) = with_input world flight flying.envelope.to (taken flying.envelope) flying.stamp

-- the message stays in flight, marked as delivered
abbrev pub marked : Flying → Flying
marked flying = record flying { delivered = true }

-- the messages in flight, the one at a place marked
abbrev pub with_mark : List Flying → ℕ → List Flying
with_mark flight place = map (λ at. if at.0 == place then marked at.1 else at.1) (enumerate_from 0 flight)

-- ---- events

-- What an event does: one turn where it names a ready node, or a message in flight that its receiver takes; and nothing
-- else. None where a number would be too large.
abbrev pub event_on : World → Event → Option World
event_on world (Run n) = with_input world world.flight n run 0
event_on world (Deliver place) = delivers world (remove world.flight place) (slice_get world.flight place)
event_on world (Repeat place) = delivers world (with_mark world.flight place) (slice_get world.flight place)

-- the run goes on with one event more
abbrev pub step_of : Option World → Event → Option World
step_of None event = None
step_of (Some world) event = event_on world event

-- the run of these events from a world on
abbrev pub played : World → List Event → Option World
played world events = fold step_of (Some world) events

-- the run of the events of a program on so many nodes; none where a number would be too large
abbrev pub run_of : Program → ℕ → OptionsRecord → List Event → Option World
run_of program nodes options events = played (fresh_world program nodes options) events
