use Rattle.std.proofs.Common.{rules, of_calls}
use Rattle.std.proofs.lemmas.Fn.{always_returns_same}
use Rattle.lrc_chart_acts.specs.Times.{is_known}
use Rattle.lrc_chart_acts.proofs.Closing.{counted_point}
use Rattle.lrc_chart_acts.proofs.closings.count_known.Goals as goal

pub returns : goal.returns
returns c =
    let p = is_known c.args.order.now c.args.position in
    counted_point p c.args.found.now c.partition_point.result c.partition_point.ensures.bound
    (c.partition_point.ensures.partitioned p (always_returns_same _ _ _ (λ a r f k. search (rules, of_calls))) c.requires)
