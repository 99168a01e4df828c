use Rattle.lrc_chart_svg.specs.Marks.{all_marks}
use Rattle.lrc_chart_svg.specs.Shown.{source_marks}
use Rattle.lrc_chart_svg.proofs.Painted.{each_marked}
use Rattle.lrc_chart_svg.proofs.source.push_source.Goals as goal

pub loop-place-preserved : goal.loop-place-preserved
loop-place-preserved c =
    each_marked (source_marks c.args.left c.args.width) c.args.lines.now c.loop-place.place c.index-lines-place.result
    (all_marks c.args.contents.now.items)
    (all_marks c.loop-place.contents.items) (all_marks c.push_source_line.new.contents.items) c.loop-place-test.true c.index-lines-place.is
    c.loop-place.invariant c.in_ok-push_source_line.ensures
