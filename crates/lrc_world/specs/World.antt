-- What is kept of a run, beside the run of the protocol machine: messages in flight are bytes.
use Rattle.std.specs.Prelude.{◌≡◌, ◌⊎◌, ◌≤◌, ℕ, Bool, true, false, Option, Some, None, List, [], ◌∷◌, ◌++◌}
use Rattle.std.specs.Prelude.{Result, Ok, Err, length, map, nat_lt, slice_get, slice_set}
use Rattle.std.specs.List.{enumerate_from, list_any}
use Rattle.std.specs.Option.{option_to_list}
use Rattle.lrc_envelope.specs.Envelope.{EnvelopeRecord}
use Rattle.lrc_wire.specs.Reading.{envelope_of}
use Rattle.lrc_wire.specs.Runs.{runs_of}
use Rattle.lrc_wire.specs.Spelling.{body}
use Rattle.lrc_wire.specs.declared.fault.WireFault.{WireFault}
use Rattle.lrc_wire.specs.declared.limits.TheConstants.{MOST_BODY_BYTES}
use Rattle.lrc_wire.specs.declared.version.Version.TheVariants.{Two}
use Rattle.lrc_protocol.specs.Run.{EntryRecord, Logged, Input, taken, logged, refused, too_large, logs, World as Run, Flying as Sent, delivers}
use Rattle.lrc_protocol.specs.declared.event.Event.{Event}
use Rattle.lrc_protocol.specs.Follows.{inputs_of}
use Rattle.lrc_program.specs.declared.Program.{Program}
use Rattle.lrc_protocol.specs.Node.{Node, OptionsRecord, fresh_node}
use Rattle.lrc_protocol.specs.Traced.{traced, trace_of, with_act}
use Rattle.lrc_node.specs.declared.fault.NodeFault.{NodeFault}
use Rattle.lrc_node.specs.declared.fault.NodeFault.TheVariants as NodeFaults
use Rattle.lrc_node.specs.declared.fault.NodeFault.TheVariants.{Failed, NotReady, Unexpected}
use Rattle.lrc_node.specs.Logged.{TracedLog, newest, sound}
use Rattle.lrc_world.specs.declared.flying.Flying.{Flying}
use Rattle.lrc_world.specs.declared.keep.Keep.{Keep}
use Rattle.lrc_world.specs.declared.keep.Keep.TheVariants.{All, Newest, Turns}
use Rattle.lrc_world.specs.declared.report.TurnFault.{TurnFault}
use Rattle.lrc_world.specs.declared.report.TurnFault.TheVariants.{Worn, NoMemory}
use Rattle.lrc_world.specs.declared.world.World.{World}
use Rattle.lrc_world.specs.Turned.{when_all, turned_by}

-- ---- messages in flight

-- what its bytes say, its stamp, and whether it was delivered
abbrev pub Seen : Type 0
Seen = Result EnvelopeRecord WireFault × (ℕ × Bool)

-- a message as it is kept, and as the protocol has it
abbrev pub seen_flying : Flying → Seen
seen_flying flying = (envelope_of flying.bytes.items, (flying.stamp, flying.delivered))

abbrev pub seen_sent : Sent → Seen
seen_sent sent = (Ok sent.envelope, (sent.stamp, sent.delivered))

-- a message that was just sent, with this stamp
abbrev pub shown_new : ℕ → EnvelopeRecord → Seen
shown_new stamp envelope = (Ok envelope, (stamp, false))

-- the message has more bytes than may be sent
abbrev pub is_long : EnvelopeRecord → Bool
is_long envelope = nat_lt MOST_BODY_BYTES (length (body Two runs_of envelope.message))

-- a turn sent such a message
abbrev pub entry_is_long : EntryRecord → Bool
entry_is_long entry = list_any is_long entry.turn.out

abbrev pub log_is_long : Logged → Bool
log_is_long l = list_any entry_is_long l.log

abbrev pub sends_long : Run → Bool
sends_long run = list_any log_is_long run.nodes

-- why messages are not sent: one of them is too long, or no memory is left
abbrev pub IsSendFault : List EnvelopeRecord → TurnFault → Type 0
IsSendFault out Worn = list_any is_long out ≡ true
IsSendFault out NoMemory = Unit {0}

-- ---- worlds

-- what is kept of a log: all of it, or the newest turn
abbrev pub kept_log : Keep → List EntryRecord → List EntryRecord
kept_log All log = log
kept_log Turns log = log
kept_log Newest log = newest log

-- what is kept, with all of each log
abbrev pub with_turns : Keep → Keep
with_turns Newest = Turns
with_turns Turns = Turns
with_turns All = All

-- a node with that alone of its log
abbrev pub cut : Keep → Logged → Logged
cut keep l = record { node = l.node; log = kept_log keep l.log }

abbrev pub trimmed : Keep → TracedLog → TracedLog
trimmed keep l = record { logged = record { node = l.logged.node; log = kept_log keep l.logged.log }; trace = l.trace }

-- how each node starts, and what is kept of its log
pub record Starts : Type 0 where
  pub start : ℕ → Node
  pub keep : Keep

-- at the beginning of a program
abbrev pub starts_of : Program → ℕ → OptionsRecord → Keep → Starts
starts_of program nodes options keep = record { start = fresh_node program nodes options; keep = keep }

-- a node at the start of a program, with no turns
abbrev pub fresh_one : Program → ℕ → OptionsRecord → ℕ → TracedLog
fresh_one program nodes options me = record {
  logged = sound (record { node = fresh_node program nodes options me; log = [] });
  trace = trace_of (fresh_node program nodes options me) [];
}

-- a node of a run, with what is kept of its log, and its trace
abbrev pub kept_node : Starts → ℕ × Logged → TracedLog
kept_node starts at = record { logged = sound (cut starts.keep at.1); trace = trace_of (starts.start at.0) at.1.log }

-- the nodes with what is kept of their logs, and their traces, the messages in flight and the acts are those of the run, in which each node's log leads
-- to it from how it starts, no message was too long, and there are no more nodes than a byte can number
pub record Shows (starts : Starts) (world : World) (run : Run) : Type 0 where
  pub keep : world.keep ≡ starts.keep
  pub nodes : world.nodes.items ≡ map (kept_node starts) (enumerate_from 0 run.nodes)
  pub replayed : (n : ℕ) (l : Logged) → slice_get run.nodes n ≡ Some l → (traced (starts.start n) (inputs_of l.log)).node ≡ l.node
  pub flight : map seen_flying world.flight.items ≡ map seen_sent run.flight
  pub acts : world.acts.items ≡ run.acts
  pub short : sends_long run ≡ false
  pub few : length run.nodes ≤ 256

-- What was played comes to this, if it comes to a run: the world shows it; or a number or a message was too large; or no memory
-- is left.
abbrev pub PlaysTo : Starts → World → Option Run → Result (Unit {0}) TurnFault → Type 0
PlaysTo starts new outcome (Ok done) = (run : Run) × (outcome ≡ Some run) × Shows starts new run
PlaysTo starts new outcome (Err Worn) = (outcome ≡ None) ⊎ ((run : Run) × (outcome ≡ Some run) × (sends_long run ≡ true))
PlaysTo starts new outcome (Err NoMemory) = Unit {0}

-- the turn that an event made of a node, if it made one, was added to the kept ones
abbrev pub NotesTurn : World → World → Event → Option ℕ → Type 0
NotesTurn old new event node = new.turned.items ≡ old.turned.items ++ when_all old.keep (turned_by event node)

-- the newest entry in a node's log is this
abbrev pub NodeLogsLast : World → ℕ → EntryRecord → Type 0
NodeLogsLast world n entry =
    (l : TracedLog) × (slice_get world.nodes.items n ≡ Some l) × (before : List EntryRecord) × (l.logged.log ≡ before ++ entry ∷ [])

-- What a turn of a node did was added: its act, and its messages in flight. The node keeps of its log what is to be kept.
pub record AddsTurn (old new : World) (n : ℕ) (entry : EntryRecord) : Type 0 where
  pub keep : new.keep ≡ old.keep
  pub nodes : (l : TracedLog) → slice_get old.nodes.items n ≡ Some l → new.nodes.items ≡ slice_set old.nodes.items n (trimmed old.keep l)
  pub flight : map seen_flying new.flight.items ≡ map seen_flying old.flight.items ++ map (shown_new entry.stamp) entry.turn.out
  pub acts : new.acts.items ≡ old.acts.items ++ option_to_list entry.turn.act
  pub short : entry_is_long entry ≡ false

abbrev pub AddsTo : World → World → ℕ → EntryRecord → Result (Unit {0}) TurnFault → Type 0
AddsTo old new n entry (Ok done) = AddsTurn old new n entry
AddsTo old new n entry (Err fault) = IsSendFault entry.turn.out fault

-- ---- turns

-- whether a node made a turn, by what it answered
abbrev pub turn_made : Result (Unit {0}) NodeFault → Result Bool TurnFault
turn_made (Ok done) = Ok true
turn_made (Err NotReady) = Ok false
turn_made (Err Unexpected) = Ok false
turn_made (Err NodeFaults.Worn) = Err Worn
turn_made (Err NodeFaults.NoMemory) = Err NoMemory
turn_made (Err Failed) = Err NoMemory

-- a node with its log after a turn, whose access is noted
abbrev pub after_turn : EntryRecord → Logged → TracedLog → TracedLog
after_turn entry after before = record {
  logged = record { node = Some after.node; log = before.logged.log ++ entry ∷ [] };
  trace = with_act after.node entry.turn.act before.trace;
}

-- What comes of an input to the node at a place: it makes a turn; it is not there, not ready, or does not expect the message, and
-- nothing changes; a number is too large; or no memory is left.
pub record IsTurn (old new : List TracedLog) (n : ℕ) (input : Input) (came : ℕ) (node : Logged) : Type 0 where
  pub entry : EntryRecord
  pub after : Logged
  pub before : TracedLog
  pub turn : logs node input came ≡ logged entry after
  pub stood : slice_get old n ≡ Some before
  pub nodes : new ≡ slice_set old n (after_turn entry after before)

abbrev pub TurnsBy : List TracedLog → List TracedLog → ℕ → Input → ℕ → Option Logged → Result (Unit {0}) NodeFault → Type 0
TurnsBy old new n input came None (Err NotReady) = new ≡ old
TurnsBy old new n input came None _ = ⊥
TurnsBy old new n input came (Some node) (Ok done) = IsTurn old new n input came node
TurnsBy old new n input came (Some node) (Err NotReady) = (logs node input came ≡ refused) × (new ≡ old)
TurnsBy old new n input came (Some node) (Err Unexpected) = (logs node input came ≡ refused) × (new ≡ old)
TurnsBy old new n input came (Some node) (Err NodeFaults.Worn) = logs node input came ≡ too_large
TurnsBy old new n input came (Some node) (Err NodeFaults.NoMemory) = Unit {0}
TurnsBy old new n input came (Some node) (Err Failed) = ⊥

abbrev pub TurnsTo : List TracedLog → List TracedLog → ℕ → Input → ℕ → Result (Unit {0}) NodeFault → Type 0
TurnsTo old new n input came result =
    (nodes : List Logged) → map (λ t. t.logged) old ≡ map sound nodes → TurnsBy old new n input came (slice_get nodes n) result

-- the message at a place of the run was taken: by this node, which made this turn, and nothing else changed
pub record IsTaken (old new : World) (run : Run) (place to : ℕ) : Type 0 where
  pub sent : Sent
  pub node : Logged
  pub entry : EntryRecord
  pub after : Logged
  pub before : TracedLog
  pub there : slice_get run.flight place ≡ Some sent
  pub receiver : sent.envelope.to ≡ to
  pub stands : slice_get run.nodes to ≡ Some node
  pub turn : logs node (taken sent.envelope) sent.stamp ≡ logged entry after
  pub stood : slice_get old.nodes.items to ≡ Some before
  pub keep : new.keep ≡ old.keep
  pub nodes : new.nodes.items ≡ slice_set old.nodes.items to (after_turn entry after before)
  pub flight : new.flight ≡ old.flight
  pub acts : new.acts ≡ old.acts

-- What comes of the message at a place: nothing, where it is not there or not expected; a turn of its receiver; or a number too
-- large; or no memory is left.
abbrev pub ReceivesTo : Starts → World → World → Run → ℕ → Result (Option ℕ) TurnFault → Type 0
ReceivesTo starts old new run place (Ok None) = Shows starts new run × ((flight : List Sent) → delivers run flight (slice_get run.flight place) ≡ Some run)
ReceivesTo starts old new run place (Ok (Some to)) = IsTaken old new run place to
ReceivesTo starts old new run place (Err Worn) = (flight : List Sent) → delivers run flight (slice_get run.flight place) ≡ None
ReceivesTo starts old new run place (Err NoMemory) = Unit {0}
