use Rattle.std.proofs.Common.{refl}
use Rattle.lrc_orders.proofs.Faults.{fault_up}
use Rattle.lrc_explore.specs.Answers.{IsFault}
use Rattle.lrc_explore_ends.proofs.answers.search.Goals as goal

pub sought_from_start-requires-clause-found : goal.sought_from_start-requires-clause-found
sought_from_start-requires-clause-found c = c.none-found.ensures.found c.args.task.now refl

pub returns-in_err-sought-clause-faults : goal.returns-in_err-sought-clause-faults
returns-in_err-sought-clause-faults c =
    fault_up c.from_residual.result c.in_err-sought.field-0.0 (IsFault c.args.task.now) c.from_residual.ensures.1 c.in_err-sought.ensures.faults
