-- What one node's thread does: its turns, what it puts and what it takes.
use Rattle.std.specs.Prelude.{◌≡◌, ℕ, ◌<◌, ◌≤◌, Bool, true, false, Option, Some, None, Result, Ok, Err, is_err, List, [], ◌∷◌, ◌++◌, All, Any, length, map}
use Rattle.lrc_wire.specs.declared.fault.WireFault.{WireFault}
use Rattle.lrc_wire.specs.declared.limits.TheConstants.{MOST_BODY_BYTES}
use Rattle.lrc_wire.specs.declared.version.Version.TheVariants.{Two}
use Rattle.lrc_envelope.specs.Envelope.{EnvelopeRecord}
use Rattle.lrc_wire.specs.Reading.{envelope_of}
use Rattle.lrc_wire.specs.Runs.{runs_of}
use Rattle.lrc_wire.specs.Spelling.{body}
use Rattle.lrc_post.specs.declared.fault.PostFault.{PostFault}
use Rattle.lrc_post.specs.declared.fault.PostFault.TheVariants as PostFaults
use Rattle.lrc_post.specs.declared.parcel.Parcel.{Parcel}
use Rattle.lrc_trace.specs.Trace.{TraceRecord}
use Rattle.lrc_protocol.specs.Node.{Node}
use Rattle.lrc_protocol.specs.Turn.{is_ready}
use Rattle.lrc_protocol.specs.Run.{Input, run, taken, EntryRecord, Logged, logged, refused, too_large, logs}
use Rattle.lrc_protocol.specs.Follows.{inputs_of}
use Rattle.lrc_protocol.specs.Traced.{traced, trace_of}
use Rattle.lrc_node.specs.Logged.{LoggedNode, TracedLog, LeadsFrom, sound}
use Rattle.lrc_node.specs.declared.fault.NodeFault.{NodeFault}
use Rattle.lrc_node.specs.declared.fault.NodeFault.TheVariants as NodeFaults
use Rattle.lrc_node.specs.declared.fault.NodeFault.TheVariants.{Failed, NotReady, Unexpected}
use Rattle.lrc_weave.specs.Logs.{MayCome, GoesOnBy}
use Rattle.lrc_threads.specs.declared.stop.Stop.{Stop}
use Rattle.lrc_threads.specs.declared.stop.Stop.TheVariants.{Closed, Worn, NoMemory}

-- for whom a parcel is, its stamp, and what its bytes say
abbrev pub Shown : Type 0
Shown = ℕ × (ℕ × Result EnvelopeRecord WireFault)

abbrev pub shown : Parcel → Shown
shown parcel = (parcel.to, (parcel.stamp, envelope_of parcel.bytes))

-- the same of a message that is sent with a stamp
abbrev pub shown_sent : ℕ → EnvelopeRecord → Shown
shown_sent stamp envelope = (envelope.to, (stamp, Ok envelope))

-- these parcels have the messages of a turn, in order, with its stamp
abbrev pub AreParcels : EntryRecord → List Parcel → Type 0
AreParcels entry parcels = map shown parcels ≡ map (shown_sent entry.stamp) entry.turn.out

-- a node would refuse what these bytes say, if they say anything
abbrev pub IsRefused : Logged → ℕ → Result EnvelopeRecord WireFault → Type 0
IsRefused l stamp (Ok envelope) = logs l (taken envelope) stamp ≡ refused
IsRefused l stamp (Err fault) = Unit {0}

-- a message has more bytes than may be sent
abbrev pub IsTooLong : EnvelopeRecord → Type 0
IsTooLong envelope = MOST_BODY_BYTES < length (body Two runs_of envelope.message)

-- one of the messages of a turn has
abbrev pub SendsTooLong : EntryRecord → Type 0
SendsTooLong entry = Any IsTooLong entry.turn.out

-- a message has no more bytes than may be sent
abbrev pub IsShort : EnvelopeRecord → Type 0
IsShort envelope = length (body Two runs_of envelope.message) ≤ MOST_BODY_BYTES

-- the same of each message of a turn
abbrev pub SendsShort : EntryRecord → Type 0
SendsShort entry = All IsShort entry.turn.out

-- the same of each turn of a log
abbrev pub AreShort : List EntryRecord → Type 0
AreShort log = All SendsShort log

-- the messages of a turn, none of which is too long, are put
abbrev pub Sends : {S : Type 0} → (S → List Parcel → S → Type 0) → S → EntryRecord → S → Type 0
Sends puts s entry t = (parcels : List Parcel) × AreParcels entry parcels × puts s parcels t × SendsShort entry

-- that as an answer; where the answer is that the post is closed, none of them is too long, and where it is that the thread is worn, one is
abbrev pub SendsTo : {S : Type 0} → (S → List Parcel → S → Type 0) → S → EntryRecord → S → Result (Unit {0}) Stop → Type 0
SendsTo puts s entry t (Ok done) = Sends puts s entry t
SendsTo puts s entry t (Err Closed) = SendsShort entry
SendsTo puts s entry t (Err Worn) = SendsTooLong entry
SendsTo puts s entry t (Err NoMemory) = Unit {0}

-- One step of a node's thread, from a state of its mail and a node with its log on. The node goes on by itself, and the messages of
-- its turn are put. Or a parcel is taken, and the node takes its message with the parcel's stamp; or refuses it, and makes no turn.
pub data Step {S : Type 0} (puts : S → List Parcel → S → Type 0) (takes : S → Parcel → S → Type 0) : S → Logged → S → Logged → Type 0 where
  goes_on : {s t : S} {l after : Logged} {entry : EntryRecord}
      → logs l run 0 ≡ logged entry after → Sends puts s entry t → Step puts takes s l t after
  takes_message : {s m t : S} {l after : Logged} {entry : EntryRecord} {parcel : Parcel} {envelope : EnvelopeRecord}
      → takes s parcel m → envelope_of parcel.bytes ≡ Ok envelope → logs l (taken envelope) parcel.stamp ≡ logged entry after
      → Sends puts m entry t → Step puts takes s l t after
  drops : {s t : S} {l : Logged} {parcel : Parcel}
      → takes s parcel t → IsRefused l parcel.stamp (envelope_of parcel.bytes) → Step puts takes s l t l

-- any number of steps
pub data GoesThrough {S : Type 0} (puts : S → List Parcel → S → Type 0) (takes : S → Parcel → S → Type 0) (s : S) (l : Logged)
    : S → Logged → Type 0 where
  stays : GoesThrough puts takes s l s l
  steps : {m t : S} {k j : Logged} → GoesThrough puts takes s l m k → Step puts takes m k t j → GoesThrough puts takes s l t j

-- what a thread gives its node, from a state of its mail: nothing, where the node goes on by itself; or the message of a parcel that
-- is taken, with the parcel's stamp
pub data Gives {S : Type 0} (takes : S → Parcel → S → Type 0) (s : S) : Input → ℕ → Type 0 where
  nothing : Gives takes s run 0
  message : {t : S} {parcel : Parcel} {envelope : EnvelopeRecord}
      → takes s parcel t → envelope_of parcel.bytes ≡ Ok envelope → Gives takes s (taken envelope) parcel.stamp

-- Why a thread wears out, after any number of steps, and what its node's log is then: the node's next turn is too large; or one of the
-- messages of that turn, which is in the log, is too long.
pub data WearsOut {S : Type 0} (puts : S → List Parcel → S → Type 0) (takes : S → Parcel → S → Type 0) (s : S) (l : Logged)
    : List EntryRecord → Type 0 where
  outgrows : {m : S} {k : Logged} {input : Input} {came : ℕ}
      → GoesThrough puts takes s l m k → Gives takes m input came → logs k input came ≡ too_large → WearsOut puts takes s l k.log
  overflows : {m : S} {k j : Logged} {input : Input} {came : ℕ} {entry : EntryRecord}
      → GoesThrough puts takes s l m k → Gives takes m input came → logs k input came ≡ logged entry j → SendsTooLong entry
      → WearsOut puts takes s l j.log

-- any number of turns of a node with its log, none of whose messages is too long
pub data Turns (l : Logged) : Logged → Type 0 where
  none : Turns l l
  more : {k j : Logged} {entry : EntryRecord} (input : Input) (came : ℕ)
      → Turns l k → MayCome input came → logs k input came ≡ logged entry j → SendsShort entry → Turns l j

-- The log of a node that was refused memory: any number of turns, and maybe one more, whose messages were not all put.
pub data Stops (l : Logged) : List EntryRecord → Type 0 where
  after_turns : {k : Logged} → Turns l k → Stops l k.log
  in_turn : {k j : Logged} {entry : EntryRecord} (input : Input) (came : ℕ)
      → Turns l k → MayCome input came → logs k input came ≡ logged entry j → Stops l j.log

-- a node that has made no turn
abbrev pub no_turn_yet : Node → Logged
no_turn_yet node = record { node = node; log = [] }

-- a log is that of turns of this node, from its first on
abbrev pub IsLogOf : Node → List EntryRecord → Type 0
IsLogOf start log = GoesOnBy (no_turn_yet start) log

-- What comes of a thread's steps: its log tells what it put and took. Where the post was closed while the node had messages to
-- send, its log is still that of its turns. Where the thread is worn, it has worn out. Where no memory is left, its log is that of its
-- turns, and maybe of one more.
abbrev pub GoesTo : {S A : Type 0} → (S → List Parcel → S → Type 0) → (S → Parcel → S → Type 0)
    → S → Logged → S → LoggedNode → Result A Stop → Type 0
GoesTo puts takes s l t new (Ok done) = (j : Logged) × (new ≡ sound j) × GoesThrough puts takes s l t j
GoesTo puts takes s l t new (Err Closed) = (j : Logged) × (new ≡ sound j) × Turns l j
GoesTo puts takes s l t new (Err Worn) = WearsOut puts takes s l new.log
GoesTo puts takes s l t new (Err NoMemory) = Stops l new.log

-- What came of a node that started like this, where its thread goes on or the post was closed: its log leads to it from there, and
-- its trace is that of the log's turns.
abbrev pub LeadsOn : {A : Type 0} → Node → TracedLog → Result A Stop → Type 0
LeadsOn start new (Ok done) = (j : Logged) × LeadsFrom start j new
LeadsOn start new (Err Closed) = (j : Logged) × LeadsFrom start j new
LeadsOn start new (Err Worn) = Unit {0}
LeadsOn start new (Err NoMemory) = Unit {0}

-- a node that keeps the trace of its turns from its first on still does
abbrev pub TracesTo : {A : Type 0} → TracedLog → TracedLog → Result A Stop → Type 0
TracesTo old new result = (start : Node) (l : Logged) → LeadsFrom start l old → LeadsOn start new result

-- whether a node that started like this would go on after these turns
abbrev pub is_ready_after : Node → List EntryRecord → Bool
is_ready_after start log = is_ready (traced start (inputs_of log)).node

-- A node's log is that of its turns from its first on, none of whose messages is too long; the trace is theirs, and it says whether
-- the node would go on after them.
pub record IsPastOf (start : Node) (log : List EntryRecord) (trace : TraceRecord) (ready : Bool) : Type 0 where
  pub log_is : IsLogOf start log
  pub short : AreShort log
  pub trace_is : trace ≡ trace_of start log
  pub ready_is : ready ≡ is_ready_after start log

-- A node that started like this is worn out, and this is its log: after the turns of the log, none of whose messages is too long, its
-- next one is too large by an input; or the newest turn of the log, which it made by an input, has a message that is too long. In
-- `outgrown` the input and the stamp are any that the node would take, since a thread cannot know which message came last. So of one
-- thread this says only that its log is that of its turns, and that to go on, or some message with some stamp, is too much for the node.
-- What a whole run promises of a node that wore out is more: `IsWearing` of lrc_run.
pub data IsWorn (start : Node) : List EntryRecord → Type 0 where
  outgrown : {k : Logged} (input : Input) (came : ℕ)
      → Turns (no_turn_yet start) k → MayCome input came → logs k input came ≡ too_large → IsWorn start k.log
  overflown : {k j : Logged} {entry : EntryRecord} (input : Input) (came : ℕ)
      → Turns (no_turn_yet start) k → MayCome input came → logs k input came ≡ logged entry j → SendsTooLong entry → IsWorn start j.log

-- What a node that started like this leaves, whose thread stopped so: it went on until the post was closed; or it is worn out; or no
-- memory was left for it. Its log is that of its turns in each case. No thread fails because the post is closed.
abbrev pub Leaves : Node → List EntryRecord → TraceRecord → Bool → Option Stop → Type 0
Leaves start log trace ready None = IsPastOf start log trace ready
Leaves start log trace ready (Some Worn) = IsLogOf start log × IsWorn start log
Leaves start log trace ready (Some NoMemory) = IsLogOf start log
Leaves start log trace ready (Some Closed) = ⊥

-- a node that has not failed and would not go on by itself
abbrev pub IsIdle : LoggedNode → Type 0
IsIdle node = (j : Logged) × (node ≡ sound j) × (is_ready j.node ≡ false)

-- the next parcel was taken, or there is none and nothing changed
abbrev pub TakesNext : {S : Type 0} → (S → Parcel → S → Type 0) → S → Option Parcel → S → Type 0
TakesNext takes s None t = t ≡ s
TakesNext takes s (Some parcel) t = takes s parcel t

-- what a node made of a parcel that was taken from one state of its mail to another: a step from the first
abbrev pub TakesIn : {S : Type 0} → (S → List Parcel → S → Type 0) → (S → Parcel → S → Type 0)
    → S → Parcel → Logged → S → LoggedNode → Result (Unit {0}) Stop → Type 0
TakesIn puts takes m parcel l t new result = (s : _) → takes s parcel m → GoesTo puts takes s l t new result

-- the newest entry of a node's log is this
abbrev pub LogsLast : LoggedNode → EntryRecord → Type 0
LogsLast node entry = (before : List EntryRecord) × (node.log ≡ before ++ entry ∷ [])

-- bytes were read: this is what they say, if they say anything
abbrev pub IsRead : Option EnvelopeRecord → Result EnvelopeRecord WireFault → Type 0
IsRead (Some envelope) said = said ≡ Ok envelope
IsRead None said = is_err said ≡ true

-- why a thread stops whose post refuses
abbrev pub stop_of : PostFault → Stop
stop_of PostFaults.Closed = Closed
stop_of PostFaults.NoMemory = NoMemory

-- whether a node made a turn, by what it answered
abbrev pub made_of : Result (Unit {0}) NodeFault → Result Bool Stop
made_of (Ok done) = Ok true
made_of (Err NotReady) = Ok false
made_of (Err Unexpected) = Ok false
made_of (Err NodeFaults.Worn) = Err Worn
made_of (Err NodeFaults.NoMemory) = Err NoMemory
made_of (Err Failed) = Err NoMemory
