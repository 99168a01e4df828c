use Rattle.std.proofs.Common.{◌≡◌, take}
use Rattle.lrc_chart_svg.specs.Widths.{most_of_lost}
use Rattle.lrc_chart_svg.proofs.lanes.most_of_lost.Given as goal

abbrev pub invariant-loop-lost : goal.invariant-loop-lost
invariant-loop-lost l = l.most ≡ most_of_lost l.column l.least (take l.lost-index l.all)
