use Rattle.std.proofs.Common.{◌≡◌, ◌<◌, ◌^◌, take}
use Rattle.lrc_chart_svg.specs.Frames.{least_top}
use Rattle.lrc_chart_svg.proofs.frames.top_below.Given as goal

abbrev pub invariant-loop-frame : goal.invariant-loop-frame
invariant-loop-frame l = record {
  few : l.top < 2 ^ 66;
  so_far : l.top ≡ least_top (take l.frame-index l.above) l.column l.busy l.parted;
}
