use Rattle.lrc_chart_svg.specs.Marks.{all_marks}
use Rattle.lrc_chart_svg.specs.Plan.{plan_in}
use Rattle.lrc_chart_svg.specs.Shown.{row_marks_at}
use Rattle.lrc_chart_svg.proofs.Painted.{each_marked}
use Rattle.lrc_chart_svg.proofs.rows.push_rows.Goals as goal

pub loop-number-preserved : goal.loop-number-preserved
loop-number-preserved c =
    each_marked (row_marks_at (plan_in c.args.layout.now) c.args.arrows.now) c.args.rows.now c.loop-number.number c.index-rows-number.result
    (all_marks c.args.contents.now.items)
    (all_marks c.loop-number.contents.items) (all_marks c.push_row.new.contents.items) c.loop-number-test.true c.index-rows-number.is
    c.loop-number.invariant c.in_ok-push_row.ensures
