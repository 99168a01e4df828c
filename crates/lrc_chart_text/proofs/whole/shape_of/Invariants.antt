use Rattle.std.proofs.Common.{◌≡◌, drop}
use Rattle.lrc_chart_text.specs.Sketch.{shape_of}
use Rattle.lrc_chart_text.proofs.whole.shape_of.Given as goal

-- no arrow so far leads to the row
abbrev pub invariant-loop-arrow : goal.invariant-loop-arrow
invariant-loop-arrow l = shape_of l.number l.row l.arrows ≡ shape_of l.number l.row (drop l.arrow-index l.arrows)
