-- A report has the acts of its run.
use Rattle.std.proofs.Common.{◌≡◌, ℕ, List, Some, subst, sym}
use Rattle.lrc_program.specs.declared.Program.{Program}
use Rattle.lrc_orders.specs.Notes.{notes_of}
use Rattle.lrc_trace.specs.declared.act.Act.{Act}
use Rattle.lrc_lazy.specs.Lazy.{IsLazyOutcome, IsOver}
use Rattle.lrc_lazy_laws.proofs.Runs.{lazy_outcome}
use Rattle.lrc_protocol.specs.declared.event.Event.{Event}
use Rattle.lrc_protocol.specs.Node.{OptionsRecord}
use Rattle.lrc_protocol.specs.Run.{World, run_of}

pub outcome_told : (program : Program) (nodes : ℕ) (options : OptionsRecord) (events : List Event) (world : World) (acts : List Act)
    → run_of program nodes options events ≡ Some world → acts ≡ world.acts → IsOver program nodes acts
    → IsLazyOutcome program nodes (notes_of nodes acts)
outcome_told program nodes options events world acts runs same over =
    subst (λ told. IsLazyOutcome program nodes (notes_of nodes told)) (sym same)
    (lazy_outcome program nodes options events world runs (subst (λ told. IsOver program nodes told) same over))
