use Rattle.std.proofs.Common.{◌≡◌, take}
use Rattle.lrc_chart_svg.specs.Source.{most_of_source}
use Rattle.lrc_chart_svg.proofs.source.most_of_source.Given as goal

abbrev pub invariant-loop-line : goal.invariant-loop-line
invariant-loop-line l = l.most ≡ most_of_source (take l.line-index l.lines)
