use Rattle.lrc_orders.proofs.Faults.{fault_says, fault_up, ok_says}
use Rattle.lrc_explore.specs.Answers.{IsFault}
use Rattle.lrc_explore.proofs.Keys.{start_grown}
use Rattle.lrc_explore.proofs.Seeking.{memory_fault}
use Rattle.lrc_explore_ends.proofs.answers.sought_from_start.Goals as goal

pub returns-in_err-traps-clause-faults : goal.returns-in_err-traps-clause-faults
returns-in_err-traps-clause-faults c =
    fault_up c.from_residual.result c.in_err-traps.field-0.0 (IsFault c.args.task.now) c.from_residual.ensures.1 c.in_err-traps.ensures.faults

pub returns-clause-start : goal.returns-clause-start
returns-clause-start c =
    ok_says c.seek.result (λ more. start_grown c.args.task.now c.begin.new.self.table.rows c.seek.new.self.table.rows more.rows c.in_ok-traps.ensures.start)
    c.seek.ensures.more

pub returns-clause-faults : goal.returns-clause-faults
returns-clause-faults c =
    fault_says c.seek.result (λ fault is. memory_fault c.args.task.now fault is) c.seek.ensures.faults
