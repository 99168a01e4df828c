use Rattle.std.proofs.Common.{[], get_or, map, refl}
use Rattle.lrc_chart_build.specs.Seen.{seen_arrow}
use Rattle.lrc_chart_build.proofs.Steps.{each_step, no_place}
use Rattle.lrc_chart_acts.specs.Direct.{arrows_to}
use Rattle.lrc_chart_acts.proofs.direct.direct_arrows.Goals as goal

pub loop-to-preserved : goal.loop-to-preserved
loop-to-preserved c =
    let order = c.args.order.now in
    let acts = c.args.acts.now in
    let places = c.args.places.now in
    let to = c.loop-to.to in
    each_step (arrows_to order acts places) places to no_place (get_or places to no_place) [] (map seen_arrow c.loop-to.arrows.items)
    (map seen_arrow c.push_arrows_to.new.arrows.items) c.loop-to-test.true refl c.loop-to.invariant c.in_ok-push_arrows_to.ensures
