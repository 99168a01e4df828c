use Rattle.std.proofs.Common.{◌≡◌, ◌<◌, ◌^◌, take}
use Rattle.lrc_chart_svg.specs.Frames.{rows_foot}
use Rattle.lrc_chart_svg.proofs.frames.rows_foot.Given as goal

abbrev pub invariant-loop-frame : goal.invariant-loop-frame
invariant-loop-frame l = record {
  few : l.foot < 2 ^ 66;
  so_far : l.foot ≡ rows_foot (take l.frame-index l.frames);
}
