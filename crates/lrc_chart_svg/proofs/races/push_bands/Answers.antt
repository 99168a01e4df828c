use Rattle.lrc_chart_svg.specs.Marks.{all_marks}
use Rattle.lrc_chart_svg.specs.Plan.{plan_in}
use Rattle.lrc_chart_svg.specs.Shown.{band_marks}
use Rattle.lrc_chart_svg.proofs.Painted.{flat_marked}
use Rattle.lrc_chart_svg.proofs.races.push_bands.Goals as goal

pub loop-band-preserved : goal.loop-band-preserved
loop-band-preserved c =
    flat_marked (band_marks (plan_in c.args.layout.now) c.args.width) c.args.bands.now c.loop-band.band-index c.band-item.result (all_marks c.args.contents.now.items)
    (all_marks c.loop-band.contents.items) (all_marks c.push_band.new.contents.items) c.loop-band-test.true c.band-item.is
    c.loop-band.invariant c.in_ok-push_band.ensures
