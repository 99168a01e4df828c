-- What reports say of the exact memory.
use Rattle.std.specs.Prelude.{◌≡◌, ℕ}
use Rattle.lrc_program.specs.declared.Program.{Program}
use Rattle.lrc_exec.specs.Follows.{deeds_of, nodes_of_acts}
use Rattle.lrc_orders.specs.Notes.{notes_of}
use Rattle.lrc_lazy.specs.Lazy.{IsOver}
use Rattle.lrc_protocol.specs.Node.{OptionsRecord}
use Rattle.lrc_world.specs.declared.report.Report.{Report}
use Rattle.lrc_exact_laws.specs.Order.{acquirers, OneBeginsOther}
use Rattle.lrc_exact_outcomes.specs.Outcome.{IsExactOutcome}
use Rattle.lrc_exact_worlds.specs.Made.{shape_in}
use Rattle.lrc_exact_reports.specs.Reported.{IsReported, AreExactActs}

-- The acts of each report read exactly, and are what the exact machine makes.
abbrev pub EachIsExact : Type 0
EachIsExact = (program : Program) (nodes : ℕ) (options : OptionsRecord) (report : Report) → IsReported program nodes options report
    → AreExactActs program nodes options report.acts.items

-- Of two reports, let the nodes acquire each lock in the same order, as far as both go. Then each node makes the same acts in both, as far
-- as both go.
abbrev pub LocksDecideReports : Type 0
LocksDecideReports = (program : Program) (nodes : ℕ) (options : OptionsRecord) (report other : Report) → IsReported program nodes options report
    → IsReported program nodes options other
    → ((l : ℕ) → OneBeginsOther (acquirers l report.acts.items) (acquirers l other.acts.items))
    → (node : ℕ) → OneBeginsOther (deeds_of node report.acts.items) (deeds_of node other.acts.items)

-- Let all nodes act in the same order. Then the acts are the same.
abbrev pub OrdersDecideReports : Type 0
OrdersDecideReports = (program : Program) (nodes : ℕ) (options : OptionsRecord) (report other : Report) → IsReported program nodes options report
    → IsReported program nodes options other
    → nodes_of_acts report.acts.items ≡ nodes_of_acts other.acts.items → report.acts.items ≡ other.acts.items

-- After which no node can act, a report has an exact outcome.
abbrev pub EachHasAnExactOutcome : Type 0
EachHasAnExactOutcome = (program : Program) (nodes : ℕ) (options : OptionsRecord) (report : Report) → IsReported program nodes options report
    → IsOver program nodes report.acts.items
    → IsExactOutcome program (shape_in nodes options) (notes_of nodes report.acts.items)
