use Rattle.std.proofs.Common.{subst}
use Rattle.lrc_explore.specs.Traps.{IsTrapping}
use Rattle.lrc_explore_less.proofs.less.Less.acts_into_trap.Goals as goal

pub start_acts-requires-clause-traps : goal.start_acts-requires-clause-traps
start_acts-requires-clause-traps c = subst (IsTrapping c.args.task.now c.args.self.now.found.table.rows) c.in-Start.is c.requires.traps

pub acts_through-requires-clause-traps : goal.acts_through-requires-clause-traps
acts_through-requires-clause-traps c = subst (IsTrapping c.args.task.now c.args.self.now.found.table.rows) c.in-Step.is c.requires.traps
