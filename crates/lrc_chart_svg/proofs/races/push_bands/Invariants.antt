use Rattle.std.proofs.Common.{◌≡◌, ◌++◌, take}
use Rattle.std.specs.List.{flat_map}
use Rattle.lrc_chart_svg.specs.Marks.{all_marks}
use Rattle.lrc_chart_svg.specs.Plan.{plan_in}
use Rattle.lrc_chart_svg.specs.Shown.{band_marks}
use Rattle.lrc_chart_svg.proofs.races.push_bands.Given as goal

abbrev pub invariant-loop-band : goal.invariant-loop-band
invariant-loop-band l =
    all_marks l.contents.items ≡ all_marks l.initial.contents.items ++ flat_map (band_marks (plan_in l.layout) l.width) (take l.band-index l.bands)
