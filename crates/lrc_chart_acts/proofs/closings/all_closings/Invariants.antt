use Rattle.std.proofs.Common.{◌≡◌, map}
use Rattle.lrc_chart_acts.specs.Times.{all_closings}
use Rattle.lrc_chart_acts.proofs.closings.all_closings.Given as goal

-- those of the nodes so far
abbrev pub invariant-loop-node : goal.invariant-loop-node
invariant-loop-node l = map (λ found. found.items) l.all.items ≡ all_closings l.acts l.node
