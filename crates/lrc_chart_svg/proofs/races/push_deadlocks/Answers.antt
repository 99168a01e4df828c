use Rattle.lrc_chart_svg.specs.Marks.{all_marks}
use Rattle.lrc_chart_svg.specs.Plan.{plan_in}
use Rattle.lrc_chart_svg.specs.Shown.{deadlock_marks}
use Rattle.lrc_chart_svg.proofs.Painted.{each_marked}
use Rattle.lrc_chart_svg.proofs.races.push_deadlocks.Goals as goal

pub loop-place-preserved : goal.loop-place-preserved
loop-place-preserved c =
    each_marked (deadlock_marks (plan_in c.args.layout.now) c.args.used) c.args.deadlocks.now c.loop-place.place c.index-deadlocks-place.result
    (all_marks c.args.contents.now.items)
    (all_marks c.loop-place.contents.items) (all_marks c.push_deadlock.new.contents.items) c.loop-place-test.true c.index-deadlocks-place.is
    c.loop-place.invariant c.in_ok-push_deadlock.ensures
