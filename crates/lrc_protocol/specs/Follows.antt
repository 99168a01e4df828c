-- What the laws say of a node's turns: those that its own inputs give, the deeds that its text makes, and the numbers of its
-- messages; and of the logs of all nodes.
use Rattle.std.specs.Prelude.{ℕ, ◌==◌, Bool, Option, Some, None, List, [], ◌∷◌, ◌++◌, option_map, map, filter, filter_map, flat_map, fold}
use Rattle.std.specs.Prelude.{false, is_some, not, slice_get, slice_index_or, unwrap_or}
use Rattle.lrc_program.specs.declared.Program.{Program}
use Rattle.lrc_trace.specs.declared.act.Deed.{Deed}
use Rattle.lrc_exec.specs.Meaning.{Thread, next_of}
use Rattle.lrc_envelope.specs.Envelope.{EnvelopeRecord}
use Rattle.lrc_envelope.specs.declared.message.Message.{Message}
use Rattle.lrc_exec.specs.Follows.{Goes}
use Rattle.lrc_protocol.specs.Node.{collection_of, Course, ended, fresh_node, going, Node, OptionsRecord, trapped, Wait}
use Rattle.lrc_protocol.specs.Turn.{done, is_repeat, not_ready, Outcome, takes, TurnRecord, unexpected, worn}
use Rattle.lrc_protocol.specs.Run.{EntryRecord, Flying, Input, outcome_of, World}

-- A thread makes these deeds one after another, and then it is this one, or none once it has stopped.
pub data MakesTo (start : Option Thread) : List Deed → Option Thread → Type 0 where
  no_more : MakesTo start [] start
  one_more : {deeds : List Deed} {thread : Thread} {deed : Deed} {after : Option Thread}
      → MakesTo start deeds (Some thread) → Goes (next_of thread) deed after → MakesTo start (deeds ++ deed ∷ []) after

-- the inputs of a log, and its turns
abbrev pub inputs_of : List EntryRecord → List Input
inputs_of log = map (λ entry. entry.input) log

abbrev pub turns_of : List EntryRecord → List TurnRecord
turns_of log = map (λ entry. entry.turn) log

-- the deeds of these turns, in order
abbrev pub deeds_in : List TurnRecord → List Deed
deeds_in turns = filter_map (λ turn. option_map (λ act. act.deed) turn.act) turns

-- the numbers of the messages to a node, in order
abbrev pub numbers_to : ℕ → List EnvelopeRecord → List ℕ
numbers_to to sent = map (λ envelope. envelope.number) (filter (λ envelope. envelope.to == to) sent)

-- what these turns send, in order
abbrev pub sent_in : List TurnRecord → List EnvelopeRecord
sent_in turns = flat_map (λ turn. turn.out) turns

-- ---- a node by itself

-- a node and its turns
pub record Local : Type 0 where
  pub node : Node
  pub turns : List TurnRecord

-- the same after one outcome more, if it is a turn
abbrev pub local_after : List TurnRecord → Outcome → Option Local
local_after turns (done turn node) = Some (record { node = node; turns = turns ++ turn ∷ [] })
local_after turns not_ready = None
local_after turns unexpected = None
local_after turns worn = None

-- the same after one input more
abbrev pub local_step : Option Local → Input → Option Local
local_step None input = None
local_step (Some l) input = local_after l.turns (outcome_of l.node input)

-- the turns of a node of a program after these inputs, and the node after them; none where one of them is no turn
abbrev pub local : Program → ℕ → OptionsRecord → ℕ → List Input → Option Local
local program nodes options me inputs =
    fold local_step (Some (record { node = fresh_node program nodes options me; turns = [] })) inputs

-- the thread of a text, and none once it has stopped
abbrev pub thread_of : Course → Option Thread
thread_of (going thread) = Some thread
thread_of (trapped cause) = None
thread_of ended = None

-- whether a node expects a message
abbrev pub is_expected : Node → ℕ → Message → Bool
is_expected node from message = is_some (takes node from message)

-- whether the word to discard is awaited
abbrev pub awaits_discard : Wait → Bool
awaits_discard wait = is_some (collection_of wait)

-- ---- messages that are still to be taken

-- whether its receiver has taken the message's number
abbrev pub is_taken_in : World → Flying → Bool
is_taken_in world flying =
    unwrap_or (option_map (λ l. is_repeat l.node flying.envelope) (slice_get world.nodes flying.envelope.to)) false

-- the messages that were sent and whose numbers their receivers have not taken. (What is delivered and taken leaves the
-- flight, or stays there as a repeat.)
abbrev pub pending : World → List EnvelopeRecord
pending world = map (λ flying. flying.envelope) (filter (λ flying. not (is_taken_in world flying)) world.flight)

-- ---- the logs of all nodes, gone through turn by turn

-- a node's log
abbrev pub log_of : List (List EntryRecord) → ℕ → List EntryRecord
log_of logs n = slice_index_or logs n []

-- how many turns of a node have come
abbrev pub come_of : List ℕ → ℕ → ℕ
come_of come n = slice_index_or come n 0

-- a node's next turn, where so many of each node have come
abbrev pub next_entry : List (List EntryRecord) → List ℕ → ℕ → Option EntryRecord
next_entry logs come n = slice_get (log_of logs n) (come_of come n)
