use Rattle.std.proofs.Common.{get_or, map, refl}
use Rattle.lrc_chart_build.specs.Bands.{band_if}
use Rattle.lrc_chart_build.specs.Seen.{seen_band}
use Rattle.lrc_chart_build.proofs.Steps.{each_step}
use Rattle.lrc_chart_build.proofs.bands.push_bands.Goals as goal

pub loop-place-preserved : goal.loop-place-preserved
loop-place-preserved c =
    let numbers = c.args.numbers.now in
    let place = c.loop-place.place in
    each_step (band_if numbers) numbers place 0 (get_or numbers place 0) (map seen_band c.args.bands.now.items)
    (map seen_band c.loop-place.bands.items) (map seen_band c.push_band.new.bands.items) c.loop-place-test.true refl c.loop-place.invariant
    c.in_ok-push_band.ensures
