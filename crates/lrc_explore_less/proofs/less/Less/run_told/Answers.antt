use Rattle.lrc_orders.proofs.Faults.{fault_says}
use Rattle.lrc_explore.proofs.Seeking.{of_step}
use Rattle.std.proofs.Common.{false}
use Rattle.lrc_explore_less.proofs.less.Less.run_told.Goals as goal

pub run_with-requires-clause-all : goal.run_with-requires-clause-all
run_with-requires-clause-all c = c.in-Ok.ensures.ended.all

pub returns-in-Ok-clause-faults : goal.returns-in-Ok-clause-faults
returns-in-Ok-clause-faults c = fault_says c.run_with.result (λ fault is. of_step c.args.task.now false fault is) c.run_with.ensures.faults
