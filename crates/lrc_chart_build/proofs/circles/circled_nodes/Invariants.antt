use Rattle.std.proofs.Common.{◌≡◌}
use Rattle.std.specs.List.{flat_map, range_with_len}
use Rattle.lrc_explain_waits.specs.Circles.{circle_of}
use Rattle.lrc_chart_build.specs.Circles.{nodes_if}
use Rattle.lrc_chart_build.proofs.circles.circled_nodes.Given as goal

-- the nodes of the circles so far
abbrev pub invariant-loop-first : goal.invariant-loop-first
invariant-loop-first l = l.nodes.items ≡ flat_map (λ first. nodes_if first (circle_of l.waits first)) (range_with_len 0 l.first)
