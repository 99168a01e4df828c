use Rattle.std.specs.Prelude.{false, true}
use Rattle.lrc_orders.proofs.Faults.{fault_says}
use Rattle.lrc_explore.proofs.Answering.{fault_of_task}
use Rattle.lrc_explore_text.proofs.outcome_run.run_in.Goals as goal

pub returns-clause-faults : goal.returns-clause-faults
returns-clause-faults c =
    let t = c.in_ok-task.ensures in
    fault_says c.run_of.result
    (λ fault is. fault_of_task c.in_ok-task.task c.args.code.now c.args.nodes c.args.most true false fault t.task t.program t.flat t.most t.looked t.noting is)
    c.run_of.ensures.faults
