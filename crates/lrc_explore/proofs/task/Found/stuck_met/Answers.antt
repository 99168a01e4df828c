use Rattle.std.proofs.Common.{subst}
use Rattle.lrc_explore.specs.Met.{IsStuckMet}
use Rattle.lrc_explore.proofs.task.Found.stuck_met.Goals as goal

pub returns-in_default-clause-stuck : goal.returns-in_default-clause-stuck
returns-in_default-clause-stuck c = subst (IsStuckMet c.args.task.now c.args.self.now.table.rows) c.in_default.is c.requires.stuck

pub stuck_order-requires-clause-stuck : goal.stuck_order-requires-clause-stuck
stuck_order-requires-clause-stuck c = subst (IsStuckMet c.args.task.now c.args.self.now.table.rows) c.in-Some.is c.requires.stuck

pub returns-clause-stuck : goal.returns-clause-stuck
returns-clause-stuck c =
    ((c.in-Some.place, subst (IsStuckMet c.args.task.now c.args.self.now.table.rows) c.in-Some.is c.requires.stuck), c.in_ok-order.ensures.gets)
