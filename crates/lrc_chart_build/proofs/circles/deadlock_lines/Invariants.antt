use Rattle.std.proofs.Common.{◌≡◌}
use Rattle.std.specs.List.{flat_map, range_with_len}
use Rattle.lrc_explain_waits.specs.Circles.{circle_of}
use Rattle.lrc_text.specs.Parts.{texts_of}
use Rattle.lrc_chart_build.specs.Circles.{line_if}
use Rattle.lrc_chart_build.proofs.circles.deadlock_lines.Given as goal

-- the lines of the circles so far
abbrev pub invariant-loop-first : goal.invariant-loop-first
invariant-loop-first l =
    texts_of l.lines.items ≡ flat_map (λ first. line_if first (circle_of l.waits first)) (range_with_len 0 l.first)
