use Rattle.std.proofs.Common.{◌≡◌, ◌<◌, ◌^◌, take}
use Rattle.lrc_chart_svg.specs.Widths.{next_left}
use Rattle.lrc_chart_svg.proofs.lanes.next_left.Given as goal

abbrev pub invariant-loop-lane : goal.invariant-loop-lane
invariant-loop-lane l = record {
  few : l.left < 2 ^ 66;
  so_far : l.left ≡ next_left l.gap (take l.lane-index l.lanes);
}
