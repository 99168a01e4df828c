use Rattle.std.proofs.Common.{◌≡◌, take}
use Rattle.lrc_chart_svg.specs.Widths.{most_of_rows}
use Rattle.lrc_chart_svg.proofs.lanes.most_of_rows.Given as goal

abbrev pub invariant-loop-frame : goal.invariant-loop-frame
invariant-loop-frame l = l.most ≡ most_of_rows l.column l.least (take l.frame-index l.frames)
