-- Reports of a program's runs, whichever call gave them.
use Rattle.std.specs.Prelude.{◌≡◌, ◌⊎◌, ℕ, Some, List}
use Rattle.lrc_program.specs.declared.Program.{Program}
use Rattle.lrc_trace.specs.declared.act.Act.{Act}
use Rattle.lrc_envelope.specs.declared.picker.Picker.{Picker}
use Rattle.lrc_post.specs.Mailbox.{MailboxRecord}
use Rattle.lrc_exec.specs.Follows.{nodes_of_acts}
use Rattle.lrc_protocol.specs.declared.event.Event.{Event}
use Rattle.lrc_protocol.specs.Node.{OptionsRecord}
use Rattle.lrc_world.specs.declared.keep.Keep.{Keep}
use Rattle.lrc_world.specs.declared.report.Report.{Report}
use Rattle.lrc_world.specs.declared.run.Order.{Order}
use Rattle.lrc_world.specs.declared.run.Run.{Run}
use Rattle.lrc_world.specs.Report.{IsReportOf}
use Rattle.lrc_world.specs.Runs.{IsRunIn}
use Rattle.lrc_run.specs.Run.{IsThreadedRun}
use Rattle.lrc_exact_laws.specs.Laws.{IsExactRun}
use Rattle.lrc_exact_machine.specs.Machine.{exact}
use Rattle.lrc_exact_reading.specs.Steady.{ReadsSteadily}
use Rattle.lrc_exact_worlds.specs.Made.{shape_in}

-- a report that `simulate`, `drive` or `wander` gives
pub record IsSimulated (program : Program) (nodes : ℕ) (options : OptionsRecord) (report : Report) : Type 0 where
  pub events : List Event
  pub told : IsReportOf program nodes options events report

-- that of a run of `run_in` or `run_checked`
pub record IsOfRun (program : Program) (nodes : ℕ) (options : OptionsRecord) (report : Report) : Type 0 where
  pub order : Order
  pub keep : Keep
  pub run : Run
  pub is : report ≡ run.report
  pub told : IsRunIn order program nodes options keep run

-- that of a run of `run`, on threads
pub record IsThreaded (program : Program) (nodes : ℕ) (options : OptionsRecord) (report : Report) : Type 0 where
  pub picker : Picker
  pub keep : Keep
  pub run : Run
  pub wires : List MailboxRecord
  pub is : report ≡ run.report
  pub told : IsThreadedRun program nodes options picker keep run wires

-- a report of the program on these nodes
abbrev pub IsReported : Program → ℕ → OptionsRecord → Report → Type 0
IsReported program nodes options report =
    IsSimulated program nodes options report ⊎ IsOfRun program nodes options report ⊎ IsThreaded program nodes options report

-- The acts are a run of the program that reads exactly, and so steadily; and the exact machine makes them, led by their order.
pub record AreExactActs (program : Program) (nodes : ℕ) (options : OptionsRecord) (acts : List Act) : Type 0 where
  pub run : IsExactRun program (shape_in nodes options) acts
  pub steadily : ReadsSteadily acts
  pub led : exact program (shape_in nodes options) (nodes_of_acts acts) ≡ Some acts
