use Rattle.lrc_orders.proofs.Faults.{fault_says}
use Rattle.lrc_explore.specs.Cut.{is_longer}
use Rattle.lrc_explore.proofs.Seeking.{memory_fault}
use Rattle.lrc_explore_less.proofs.less.Less.search.Goals as goal

pub end_of_all-requires-clause-cut : goal.end_of_all-requires-clause-cut
end_of_all-requires-clause-cut c =
    let long = c.in_ok-passes.ensures.long c.if-passes.false in
    is_longer long.0 long.1

pub returns-then-passes-clause-faults : goal.returns-then-passes-clause-faults
returns-then-passes-clause-faults c =
    fault_says c.seek.result (λ fault is. memory_fault c.args.task.now fault is) c.seek.ensures.faults
