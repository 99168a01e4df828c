use Rattle.std.proofs.Common.{subst}
use Rattle.lrc_explore.specs.Answers.{IsStuckFirst}
use Rattle.lrc_explore.proofs.Reaching.{never_stuck}
use Rattle.lrc_explore.proofs.task.Found.stuck_told.Goals as goal

pub returns-in_default-clause-stuck : goal.returns-in_default-clause-stuck
returns-in_default-clause-stuck c =
    let task = c.args.task.now in
    let all = c.args.self.now.table.rows in
    never_stuck task all c.requires.found.reached c.requires.all.start c.requires.all.expanded (subst (IsStuckFirst task all) c.in_default.is c.requires.stuck)

pub stuck_order-requires-clause-stuck : goal.stuck_order-requires-clause-stuck
stuck_order-requires-clause-stuck c =
    let first = subst (IsStuckFirst c.args.task.now c.args.self.now.table.rows) c.in-Some.is c.requires.stuck in (first.0, first.1, first.2)
