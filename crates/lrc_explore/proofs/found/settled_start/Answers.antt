use Rattle.lrc_orders.proofs.Faults.{fault_up}
use Rattle.lrc_explore.specs.Answers.{IsFault}
use Rattle.lrc_explore.proofs.Seeking.{long_start}
use Rattle.lrc_explore.proofs.found.settled_start.Goals as goal

pub returns-in_err-or_too_many-clause-faults : goal.returns-in_err-or_too_many-clause-faults
returns-in_err-or_too_many-clause-faults c =
    let task = c.args.task.now in
    let e = c.in_err-or_too_many.ensures in
    fault_up c.from_residual-in_err-or_too_many.result c.in_err-or_too_many.field-0.0 (IsFault task) c.from_residual-in_err-or_too_many.ensures.1
    (long_start task c.in_ok-state.state c.requires.task c.in_ok-state.ensures.first.begun (c.in_ok-done.ensures.open e.1) c.in_err-or_too_many.field-0.0 e.0)
