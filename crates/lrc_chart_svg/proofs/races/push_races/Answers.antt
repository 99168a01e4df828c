use Rattle.lrc_chart_svg.specs.Marks.{all_marks}
use Rattle.lrc_chart_svg.specs.Plan.{plan_in}
use Rattle.lrc_chart_svg.specs.Shown.{race_marks}
use Rattle.lrc_chart_svg.proofs.Painted.{each_marked}
use Rattle.lrc_chart_svg.proofs.races.push_races.Goals as goal

pub loop-place-preserved : goal.loop-place-preserved
loop-place-preserved c =
    each_marked (race_marks (plan_in c.args.layout.now) c.args.used) c.args.races.now c.loop-place.place c.index-races-place.result
    (all_marks c.args.contents.now.items)
    (all_marks c.loop-place.contents.items) (all_marks c.push_race.new.contents.items) c.loop-place-test.true c.index-races-place.is
    c.loop-place.invariant c.in_ok-push_race.ensures
