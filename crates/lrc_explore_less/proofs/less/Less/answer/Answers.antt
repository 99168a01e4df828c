use Rattle.std.proofs.Common.{true, subst}
use Rattle.lrc_explore_less.specs.Met.{IsSought}
use Rattle.lrc_explore_less.proofs.less.Less.answer.Goals as goal

pub verdict-requires-clause-end : goal.verdict-requires-clause-end
verdict-requires-clause-end c =
    subst (IsSought c.args.task.now c.search.new.self true) c.in-Ended.is c.in_ok-sought.ensures.sought

pub met_told-requires-clause-many : goal.met_told-requires-clause-many
met_told-requires-clause-many c =
    subst (IsSought c.args.task.now c.search.new.self true) c.in-Many.is c.in_ok-sought.ensures.sought
