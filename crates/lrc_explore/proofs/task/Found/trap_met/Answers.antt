use Rattle.std.proofs.Common.{subst}
use Rattle.lrc_explore.specs.Met.{IsTrapMet}
use Rattle.lrc_explore.proofs.task.Found.trap_met.Goals as goal

pub returns-in_default-clause-trap : goal.returns-in_default-clause-trap
returns-in_default-clause-trap c = subst (IsTrapMet c.args.task.now c.args.self.now.table.rows) c.in_default.is c.requires.trap

pub trap_order-requires-clause-traps : goal.trap_order-requires-clause-traps
trap_order-requires-clause-traps c = subst (IsTrapMet c.args.task.now c.args.self.now.table.rows) c.in-Some.is c.requires.trap
