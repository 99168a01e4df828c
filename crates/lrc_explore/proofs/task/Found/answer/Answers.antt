use Rattle.std.proofs.Common.{true, subst}
use Rattle.lrc_explore.specs.Met.{FitsSought, IsSought}
use Rattle.lrc_explore.proofs.Keys.{start_grown}
use Rattle.lrc_explore.proofs.Seeking.{cut_short}
use Rattle.lrc_explore.proofs.task.Found.answer.Goals as goal

pub verdict-requires-clause-start : goal.verdict-requires-clause-start
verdict-requires-clause-start c =
    start_grown c.args.task.now c.begin.new.self.table.rows c.seek.new.self.table.rows c.in_ok-sought.ensures.more.rows c.in_ok-traps.ensures.start

pub verdict-requires-clause-end : goal.verdict-requires-clause-end
verdict-requires-clause-end c = subst (IsSought c.args.task.now c.seek.new.self true) c.in-Ended.is c.in_ok-sought.ensures.sought

pub verdict-requires-clause-few : goal.verdict-requires-clause-few
verdict-requires-clause-few c = subst (FitsSought c.args.task.now c.seek.new.self) c.in-Ended.is c.in_ok-sought.ensures.fits

pub returns-in-Many-clause-faults : goal.returns-in-Many-clause-faults
returns-in-Many-clause-faults c =
    let many = subst (IsSought c.args.task.now c.seek.new.self true) c.in-Many.is c.in_ok-sought.ensures.sought in
    cut_short c.args.task.now c.seek.new.self true c.in_ok-sought.ensures.found many.cut many.calm
