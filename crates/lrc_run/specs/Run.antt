-- What a run of nodes on threads answers.
use Rattle.std.specs.Prelude.{◌≡◌, ℕ, ◌⊎◌, Bool, false, true, Some, List, All, Any, length}
use Rattle.lrc_program.specs.declared.Program.{Program}
use Rattle.lrc_trace.specs.Trace.{TraceRecord}
use Rattle.lrc_judge.specs.Races.{AreNamedRaces}
use Rattle.lrc_envelope.specs.declared.picker.Picker.{Picker}
use Rattle.lrc_post.specs.Mailbox.{MailboxRecord, IsAllGiven}
use Rattle.lrc_post.specs.Post.{AreOf, AreWires}
use Rattle.lrc_protocol.specs.declared.event.Event.{Event}
use Rattle.lrc_protocol.specs.Node.{OptionsRecord}
use Rattle.lrc_protocol.specs.Run.{EntryRecord, Flying, World, run_of, turns_of_logs}
use Rattle.lrc_weave.specs.Matched.{AreMatched}
use Rattle.lrc_weave.specs.Woven.{AreWoven}
use Rattle.lrc_world.specs.declared.keep.Keep.{Keep}
use Rattle.lrc_world.specs.declared.report.Report.{Report}
use Rattle.lrc_world.specs.declared.run.Run.{Run}
use Rattle.lrc_world.specs.Origins.{AreOriginsOf}
use Rattle.lrc_world.specs.Report.{AreAll, IsReportOf}
use Rattle.lrc_world.specs.Runs.{IsRunBy}
use Rattle.lrc_world.specs.Turned.{turned_of, when_all}
use Rattle.lrc_world.specs.World.{sends_long, with_turns}
use Rattle.lrc_threads.specs.Threads.{is_any_ready_after, traces_of_logs}
use Rattle.lrc_threads.specs.Worker.{AreShort}
use Rattle.lrc_run.specs.declared.told.ToldRun.{ToldRun}

-- the turns of each node of a report, from node 0 up
abbrev pub turns_of_nodes : Report → List (List EntryRecord)
turns_of_nodes report = turns_of_logs report.logs.items

-- The report is that of these events, which make all turns of its logs, ordered by their stamps and, where those are the same, by
-- their nodes. After them no node is ready, and no message is in flight. No turn of their run sends a message that is too long.
pub record IsWovenReport (program : Program) (nodes : ℕ) (options : OptionsRecord) (events : List Event) (report : Report) : Type 0 where
  pub flight : List Flying
  pub reported : IsReportOf program nodes options events report
  pub woven : AreWoven (turns_of_nodes report) events flight
  pub over : AreAll program nodes options events
  pub short : (run : World) → run_of program nodes options events ≡ Some run → sends_long run ≡ false

-- There is a mailbox for each node, with a legal history: exactly the puts that the senders' logs make to it, and the takes of its
-- owner's log, each once and in the order of each log. Each take is of the parcel that the picker gives of those in flight then, and
-- in the end nothing is in flight in any mailbox: each parcel was given once, or with `Twice` two times.
pub record AreWiresOf (nodes : ℕ) (picker : Picker) (report : Report) (wires : List MailboxRecord) : Type 0 where
  pub count : length wires ≡ nodes
  pub legal : AreWires wires
  pub picked : AreOf picker wires
  pub matched : AreMatched (turns_of_nodes report) wires
  pub taken : All IsAllGiven wires

-- these events make all turns of the report's logs, ordered by their stamps and, where those are the same, by their nodes
abbrev pub MakeTurnsOf : Report → List Event → Type 0
MakeTurnsOf report events = (flight : List Flying) × AreWoven (turns_of_nodes report) events flight

-- A run on threads. It is what every run is (`IsRunBy`, which has the report, the races and the sequential-consistency theorem), with all
-- turns, of the events that make them in the order of their stamps. Nothing is left to do after it. And what the mailboxes kept tells the same.
pub record IsThreadedRun (program : Program) (nodes : ℕ) (options : OptionsRecord) (picker : Picker) (keep : Keep) (run : Run)
    (wires : List MailboxRecord) : Type 0 where
  pub made : IsRunBy (MakeTurnsOf run.report) program nodes options (with_turns keep) run
  pub over : run.is_over ≡ true
  pub posted : AreWiresOf nodes picker run.report wires

-- Logs and mailboxes that no report comes of: they tell of different messages, or after the events that make all turns of the logs a
-- node is ready or a message in flight, or a mailbox has a parcel that is still to be given.
abbrev pub IsUntold : Program → ℕ → OptionsRecord → List (List EntryRecord) → List MailboxRecord → Type 0
IsUntold program nodes options logs wires = (AreMatched logs wires → ⊥)
    ⊎ ((events : List Event) × (flight : List Flying) × AreWoven logs events flight × (AreAll program nodes options events → ⊥))
    ⊎ Any (λ (mailbox : MailboxRecord). IsAllGiven mailbox → ⊥) wires

-- ---- the steps of a call

-- what is known of the nodes of a run none of whose threads failed: none of their messages was too long; the traces are those of their
-- turns, and so is whether any node would go on
pub record AreWhole (program : Program) (nodes : ℕ) (options : OptionsRecord) (logs : List (List EntryRecord)) (traces : List TraceRecord) (ready : Bool)
    : Type 0 where
  pub short : All AreShort logs
  pub traces_are : traces ≡ traces_of_logs program nodes options logs
  pub ready_is : ready ≡ is_any_ready_after program nodes options logs

-- a report has these turns, and what is told beside them
pub record Reports (logs : List (List EntryRecord)) (told : ToldRun) (report : Report) : Type 0 where
  pub turns : turns_of_nodes report ≡ logs
  pub acts : report.acts ≡ told.acts
  pub ends : report.ends ≡ told.ends
  pub races : report.races ≡ told.races
  pub first : report.first_race ≡ told.first_race

-- What is told beside the turns of nodes makes a report of them, in which the races are those named. Where all is kept, the events that make
-- the turns are told with their nodes, and where the acts come from.
pub record IsTold (program : Program) (nodes : ℕ) (options : OptionsRecord) (keep : Keep) (logs : List (List EntryRecord)) (told : ToldRun)
    : Type 0 where
  pub woven : (report : Report) → Reports logs told report → IsWovenReport program nodes options told.events.items report
  pub turned : told.turned.items ≡ when_all keep (turned_of program nodes options told.events.items)
  pub origins : AreOriginsOf keep program nodes logs told.turned.items told.acts.items told.origins
  pub races : AreNamedRaces told.acts.items told.races.items
