use Rattle.lrc_chart_svg.specs.Marks.{all_marks}
use Rattle.lrc_chart_svg.specs.Plan.{plan_in}
use Rattle.lrc_chart_svg.specs.Shown.{arrow_marks}
use Rattle.lrc_chart_svg.proofs.Painted.{flat_marked}
use Rattle.lrc_chart_svg.proofs.arrows.push_arrows.Goals as goal

pub loop-arrow-preserved : goal.loop-arrow-preserved
loop-arrow-preserved c =
    flat_marked (arrow_marks (plan_in c.args.layout.now)) c.args.arrows.now c.loop-arrow.arrow-index c.arrow-item.result
    (all_marks c.args.contents.now.items)
    (all_marks c.loop-arrow.contents.items) (all_marks c.push_arrow.new.contents.items) c.loop-arrow-test.true c.arrow-item.is
    c.loop-arrow.invariant c.in_ok-push_arrow.ensures
