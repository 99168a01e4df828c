use Rattle.std.proofs.Common.{◌≡◌, take}
use Rattle.lrc_chart_svg.specs.Flow.{kinds_flow}
use Rattle.lrc_chart_svg.proofs.flow.kinds_flow.Given as goal

abbrev pub invariant-loop-arrow : goal.invariant-loop-arrow
invariant-loop-arrow l = l.flow ≡ kinds_flow l.room l.number l.row (take l.arrow-index l.arrows)
