use Rattle.std.proofs.Common.{◌≡◌, ◌++◌}
use Rattle.std.specs.List.{flat_map, range_with_len}
use Rattle.lrc_explain_waits.specs.Circles.{circle_if, circle_of}
use Rattle.lrc_explain_waits.proofs.circles.push_circles.Given as goal

abbrev pub invariant-loop-first : goal.invariant-loop-first
invariant-loop-first l =
    l.text.items ≡ l.initial.text.items ++ flat_map (λ first. circle_if first (circle_of l.waits first)) (range_with_len 0 l.first)
