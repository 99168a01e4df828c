use Rattle.std.proofs.Common.{◌≡◌, map}
use Rattle.std.specs.List.{flat_map, range_with_len}
use Rattle.lrc_explain_waits.specs.Circles.{circle_of}
use Rattle.lrc_step.specs.EndLines.{circle_if}
use Rattle.lrc_step.proofs.ends.circles_of.Given as goal

-- the circles so far
abbrev pub invariant-loop-first : goal.invariant-loop-first
invariant-loop-first l =
    map (λ one. one.items) l.circles.items ≡ flat_map (λ first. circle_if first (circle_of l.waits first)) (range_with_len 0 l.first)
