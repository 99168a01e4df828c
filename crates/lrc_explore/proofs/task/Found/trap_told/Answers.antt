use Rattle.std.proofs.Common.{subst}
use Rattle.lrc_orders_table.specs.Rows.{row_count}
use Rattle.lrc_explore.specs.Traps.{IsTrapSoFar}
use Rattle.lrc_explore.proofs.Trapping.{never_traps}
use Rattle.lrc_explore.proofs.task.Found.trap_told.Goals as goal

pub returns-in_default-clause-trap : goal.returns-in_default-clause-trap
returns-in_default-clause-trap c =
    let task = c.args.task.now in
    let all = c.args.self.now.table.rows in
    never_traps task all c.requires.found.reached c.requires.all.start c.requires.all.expanded
    (subst (IsTrapSoFar task all (row_count all)) c.in_default.is c.requires.trap)

pub trap_order-requires-clause-traps : goal.trap_order-requires-clause-traps
trap_order-requires-clause-traps c =
    let all = c.args.self.now.table.rows in
    subst (IsTrapSoFar c.args.task.now all (row_count all)) c.in-Some.is c.requires.trap
