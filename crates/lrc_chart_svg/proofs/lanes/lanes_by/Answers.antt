use Rattle.std.proofs.Common.{◌∙◌, List, ap}
use Rattle.lrc_chart_svg.specs.declared.lanes.Lane.{Lane}
use Rattle.lrc_chart_svg.specs.Widths.{lane_behind}
use Rattle.lrc_chart_svg.proofs.Placed.{one_placed}
use Rattle.lrc_chart_svg.proofs.lanes.lanes_by.Goals as goal

pub loop-name-preserved : goal.loop-name-preserved
loop-name-preserved c =
    let picture = c.args.picture.now in
    let frames = c.args.frames.now in
    one_placed (lane_behind picture frames) picture.columns.items c.deref-name-items.result.now c.deref-name-items.ensures.value c.loop-name.name-index
    c.name-item.result c.loop-name.lanes.items c.push.new.self.items c.lane_behind-lane.result c.loop-name-test.true c.name-item.is c.loop-name.invariant
    (c.lane_behind-lane.ensures ∙ ap (λ (lanes : List Lane). lane_behind picture frames lanes c.name-item.result) c.deref.ensures.value)
    c.in_ok-push.ensures.items
