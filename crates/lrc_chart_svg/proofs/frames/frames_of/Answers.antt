use Rattle.std.proofs.Common.{◌∙◌, List, ap}
use Rattle.lrc_chart_svg.specs.declared.frames.Frame.{Frame}
use Rattle.lrc_chart_svg.specs.Frames.{frame_below}
use Rattle.lrc_chart_svg.proofs.Placed.{one_placed}
use Rattle.lrc_chart_svg.proofs.frames.frames_of.Goals as goal

pub loop-row-preserved : goal.loop-row-preserved
loop-row-preserved c =
    let picture = c.args.picture.now in
    one_placed (frame_below picture) picture.rows.items c.deref-row-items.result.now c.deref-row-items.ensures.value c.loop-row.row-index
    c.row-item.result c.loop-row.frames.items c.push.new.self.items c.frame_below-frame.result c.loop-row-test.true c.row-item.is c.loop-row.invariant
    (c.frame_below-frame.ensures ∙ ap (λ (above : List Frame). frame_below picture above c.row-item.result) c.deref.ensures.value)
    c.in_ok-push.ensures.items
