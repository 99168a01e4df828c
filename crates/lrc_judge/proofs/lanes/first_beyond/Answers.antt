use Rattle.std.proofs.Common.{rules, of_calls}
use Rattle.std.proofs.lemmas.Fn.{always_returns_same}
use Rattle.lrc_judge.specs.Lanes.{is_behind}
use Rattle.lrc_judge.proofs.lanes.first_beyond.Goals as goal

pub returns-clause-point : goal.returns-clause-point
returns-clause-point c = c.partition_point.ensures.partitioned (is_behind c.args.order.now c.args.lane c.args.position)
    (always_returns_same _ _ _ (λ a r f k. search (rules, of_calls))) (c.requires.first c.args.lane c.args.position)
