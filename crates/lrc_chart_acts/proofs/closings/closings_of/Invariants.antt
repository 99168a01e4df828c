use Rattle.std.proofs.Common.{◌≡◌, take}
use Rattle.lrc_chart_acts.specs.Times.{closings}
use Rattle.lrc_chart_acts.proofs.closings.closings_of.Given as goal

-- those of the acts so far
abbrev pub invariant-loop-k : goal.invariant-loop-k
invariant-loop-k l = l.found.items ≡ closings (take l.k l.acts) l.node
