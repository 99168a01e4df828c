use Rattle.std.proofs.Common.{get_or, map, refl}
use Rattle.lrc_chart_build.specs.Seen.{seen_arrow}
use Rattle.lrc_chart_build.proofs.Steps.{each_step, no_place}
use Rattle.lrc_chart_acts.specs.Direct.{arrow_between}
use Rattle.lrc_chart_acts.proofs.direct.push_arrows_to.Goals as goal

pub loop-from-preserved : goal.loop-from-preserved
loop-from-preserved c =
    let above = c.args.above.now in
    let from = c.loop-from.from in
    each_step (arrow_between c.args.order.now c.args.acts.now c.args.to c.args.later) above from no_place (get_or above from no_place)
    (map seen_arrow c.args.arrows.now.items) (map seen_arrow c.loop-from.arrows.items) (map seen_arrow c.push_between.new.arrows.items)
    c.loop-from-test.true refl c.loop-from.invariant c.in_ok-push_between.ensures
