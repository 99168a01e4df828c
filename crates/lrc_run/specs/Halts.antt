-- Where a run on threads stopped, and what its nodes had done by then.
use Rattle.std.specs.Prelude.{◌≡◌, ◌<◌, ◌^◌, ◌⊎◌, ℕ, false, Option, Some, None, List, length, slice_get}
use Rattle.lrc_program.specs.declared.Program.{Program}
use Rattle.lrc_envelope.specs.declared.picker.Picker.{Picker}
use Rattle.lrc_exec.specs.Nodes.{AreNodes}
use Rattle.lrc_post.specs.Mailbox.{MailboxRecord}
use Rattle.lrc_post.specs.Post.{AreOf}
use Rattle.lrc_protocol.specs.declared.event.Event.{Event}
use Rattle.lrc_protocol.specs.Node.{Node, OptionsRecord, fresh_node}
use Rattle.lrc_protocol.specs.Run.{Input, EntryRecord, World, Flying, run_of, turns_of_logs}
use Rattle.lrc_weave.specs.Logs.{AreLogs}
use Rattle.lrc_weave.specs.Sent.{AreTakesSent}
use Rattle.lrc_weave.specs.Further.{AreWovenWith, AreWovenWithout}
use Rattle.lrc_weave.specs.Woven.{AreWoven}
use Rattle.lrc_setting.specs.Ranges.{AreSteps}
use Rattle.lrc_world.specs.Report.{IsWornBy}
use Rattle.lrc_world.specs.World.{sends_long}
use Rattle.lrc_threads.specs.declared.stop.Stop.{Stop}
use Rattle.lrc_threads.specs.declared.stop.Stop.TheVariants as stops
use Rattle.lrc_threads.specs.Threads.{HaveNoFailure, IsFirstFailure}
use Rattle.lrc_threads.specs.Worker.{AreShort, IsWorn}
use Rattle.lrc_run.specs.declared.fault.RunFault.{RunFault}
use Rattle.lrc_run.specs.declared.fault.RunFault.TheVariants.{BadNodes, BadSteps, Worn, Mismatch, NoMemory}
use Rattle.lrc_run.specs.declared.halt.Halt.{Halt}
use Rattle.lrc_run.specs.declared.halt.Halt.TheVariants as halts
use Rattle.lrc_run.specs.declared.halt.Left.{Left}
use Rattle.lrc_run.specs.declared.halt.WornOut.{WornOut}
use Rattle.lrc_run.specs.Run.{IsUntold}
use Rattle.lrc_run.specs.Unfinished.{unfinished}

-- ---- what nodes left

-- the turns of each node, from node 0 up
abbrev pub logs_left : Left → List (List EntryRecord)
logs_left left = turns_of_logs left.logs.items

-- What the log of a node says whose thread stopped so: where it went on until the post was closed, none of its messages was too long; where
-- it wore out, the node's next turn is too large, or a message of its newest one too long.
abbrev pub StoppedWith : Node → List EntryRecord → Option Stop → Type 0
StoppedWith start log None = AreShort log
StoppedWith start log (Some stops.Worn) = IsWorn start log
StoppedWith start log (Some stops.NoMemory) = Unit {0}
StoppedWith start log (Some stops.Closed) = ⊥

-- The nodes of a program left these logs, and their threads stopped so: each log is that of its node's turns from its first on. There is a
-- mailbox for each node, of the picker of the run.
pub record AreLeft (program : Program) (nodes : ℕ) (options : OptionsRecord) (picker : Picker) (logs : List (List EntryRecord)) (stopped : List (Option Stop))
    (wires : List MailboxRecord) : Type 0 where
  pub turns : AreLogs program nodes options logs
  pub count : length stopped ≡ nodes
  pub each : (n : ℕ) (log : List EntryRecord) (stop : Option Stop) → slice_get logs n ≡ Some log → slice_get stopped n ≡ Some stop
      → StoppedWith (fresh_node program nodes options n) log stop
  pub mailboxes : length wires ≡ nodes
  pub picked : AreOf picker wires

abbrev pub IsLeft : Program → ℕ → OptionsRecord → Picker → Left → Type 0
IsLeft program nodes options picker left = AreLeft program nodes options picker (logs_left left) left.stops.items left.wires

-- ---- the events of logs

-- Events make all turns of logs, in their order; and behind them the turn of a node by an input, if there is one.
abbrev pub AreWovenUntil : List (List EntryRecord) → ℕ → Option Input → List Event → Type 0
AreWovenUntil logs node None events = (flight : List Flying) × AreWoven logs events flight
AreWovenUntil logs node (Some input) events = AreWovenWith logs node input events

-- They do so where the logs are those of a program's nodes, and each message that is taken was sent.
abbrev pub AreEventsOf : List (List EntryRecord) → ℕ → Option Input → List Event → Type 0
AreEventsOf logs node unfinished events = (program : Program) (nodes : ℕ) (options : OptionsRecord)
    → AreLogs program nodes options logs → AreTakesSent logs → AreWovenUntil logs node unfinished events

-- no event makes the turn that is to stand behind the others: its message is not in flight there
abbrev pub LacksEvent : List (List EntryRecord) → Option Input → Type 0
LacksEvent logs None = ⊥
LacksEvent logs (Some input) = AreWovenWithout logs input

-- it is so where the logs are those of a program's nodes, and each message that is taken was sent
abbrev pub AreUnmatched : List (List EntryRecord) → Option Input → Type 0
AreUnmatched logs unfinished = (program : Program) (nodes : ℕ) (options : OptionsRecord)
    → AreLogs program nodes options logs → AreTakesSent logs → LacksEvent logs unfinished

-- events are played to their end, and no message is too long
abbrev pub IsPlayedOut : Program → ℕ → OptionsRecord → List Event → Type 0
IsPlayedOut program nodes options events = (run : World) × (run_of program nodes options events ≡ Some run) × (sends_long run ≡ false)

-- ---- why there is no report

-- A node wore out that left this log and this mailbox among the others: the events make all turns, and behind them the one that the node
-- did not finish; there are fewer than 2^64 of them; and there a number or a message becomes too large.
pub record IsWearing (program : Program) (nodes : ℕ) (options : OptionsRecord) (logs : List (List EntryRecord)) (wires : List MailboxRecord) (node : ℕ)
    (events : List Event) : Type 0 where
  pub events_are : AreWovenUntil logs node (unfinished logs wires node) events
  pub few : length events < 2 ^ 64
  pub wears : IsWornBy program nodes options events

-- a node wore out, and no node with a lower number failed
pub record IsWornOut (program : Program) (nodes : ℕ) (options : OptionsRecord) (picker : Picker) (worn : WornOut) : Type 0 where
  pub left_so : IsLeft program nodes options picker worn.left
  pub first : IsFirstFailure worn.left.stops.items (record { node = worn.node; stop = stops.Worn })
  pub wearing : IsWearing program nodes options (logs_left worn.left) worn.left.wires worn.node worn.events.items

-- there was no memory for a node's thread, and no node with a lower number failed
pub record IsRefused (program : Program) (nodes : ℕ) (options : OptionsRecord) (picker : Picker) (left : Left) : Type 0 where
  pub left_so : IsLeft program nodes options picker left
  pub node : ℕ
  pub first : IsFirstFailure left.stops.items (record { node = node; stop = stops.NoMemory })

-- the events that make all turns and the one that the node did not finish, of which there are fewer than 2^64, are played to their end
pub record IsPlayedThrough (program : Program) (nodes : ℕ) (options : OptionsRecord) (logs : List (List EntryRecord)) (wires : List MailboxRecord)
    (node : ℕ) (events : List Event) : Type 0 where
  pub events_are : AreWovenUntil logs node (unfinished logs wires node) events
  pub few : length events < 2 ^ 64
  pub played : IsPlayedOut program nodes options events

-- A node wore out on its thread, and the turns of all nodes do not tell why: a message that is taken was not sent; or no event makes the
-- turn that the node did not finish; or the events that make all turns and this one are played to their end.
abbrev pub IsUntoldWearing : Program → ℕ → OptionsRecord → List (List EntryRecord) → List MailboxRecord → ℕ → Type 0
IsUntoldWearing program nodes options logs wires node = (AreTakesSent logs → ⊥) ⊎ LacksEvent logs (unfinished logs wires node)
    ⊎ ((events : List Event) × IsPlayedThrough program nodes options logs wires node events)

-- what is left does not tell of one run to its end: no thread failed, and logs and mailboxes differ or something is left to do; or a
-- node wore out, which the turns do not tell
abbrev pub Differ : Program → ℕ → OptionsRecord → List (List EntryRecord) → List (Option Stop) → List MailboxRecord → Type 0
Differ program nodes options logs stopped wires = (HaveNoFailure stopped × IsUntold program nodes options logs wires)
    ⊎ ((node : ℕ) × IsFirstFailure stopped (record { node = node; stop = stops.Worn }) × IsUntoldWearing program nodes options logs wires node)

pub record IsMismatch (program : Program) (nodes : ℕ) (options : OptionsRecord) (picker : Picker) (left : Left) : Type 0 where
  pub left_so : IsLeft program nodes options picker left
  pub differ : Differ program nodes options (logs_left left) left.stops.items left.wires

-- why a run on threads has no report
abbrev pub IsHalt : Program → ℕ → OptionsRecord → Picker → Halt → Type 0
IsHalt program nodes options picker (halts.Worn worn) = IsWornOut program nodes options picker worn
IsHalt program nodes options picker (halts.Refused left) = IsRefused program nodes options picker left
IsHalt program nodes options picker (halts.Mismatch left) = IsMismatch program nodes options picker left
IsHalt program nodes options picker halts.NoMemory = Unit {0}

-- what is answered of it
abbrev pub fault_of : Halt → RunFault
fault_of (halts.Worn worn) = Worn
fault_of (halts.Refused left) = NoMemory
fault_of (halts.Mismatch left) = Mismatch
fault_of halts.NoMemory = NoMemory

-- Why a run of so many nodes with these options is answered with a fault: nodes or steps are not in range, or it halts so.
abbrev pub IsRunFault : Program → ℕ → OptionsRecord → Picker → RunFault → Type 0
IsRunFault program nodes options picker BadNodes = ¬ AreNodes nodes
IsRunFault program nodes options picker BadSteps = AreNodes nodes × ¬ AreSteps options.steps
IsRunFault program nodes options picker Worn = (worn : WornOut) × IsWornOut program nodes options picker worn
IsRunFault program nodes options picker Mismatch = (left : Left) × IsMismatch program nodes options picker left
IsRunFault program nodes options picker NoMemory = Unit {0}
