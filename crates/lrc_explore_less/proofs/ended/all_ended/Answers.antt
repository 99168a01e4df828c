use Rattle.std.proofs.Common.{refl}
use Rattle.lrc_explore_less.proofs.ended.all_ended.Goals as goal

pub all_outcomes-all-requires-clause-none : goal.all_outcomes-all-requires-clause-none
all_outcomes-all-requires-clause-none c = c.none-less.ensures c.args.task.now refl

pub returns-in-Ok-clause-ended : goal.returns-in-Ok-clause-ended
returns-in-Ok-clause-ended c = record { enough = c.in-Ok.ensures.enough; exact = c.in-Ok.ensures.exact }
