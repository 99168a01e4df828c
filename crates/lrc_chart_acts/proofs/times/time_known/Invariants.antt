use Rattle.std.proofs.Common.{◌≡◌, ◌+◌, ◌-◌, ◌++◌}
use Rattle.lrc_time.specs.Time.{zeros}
use Rattle.lrc_chart_acts.specs.Times.{count_closed}
use Rattle.lrc_chart_acts.proofs.Filling.{entries}
use Rattle.lrc_chart_acts.proofs.times.time_known.Given as goal

-- the entries so far
abbrev pub invariant-loop-node : goal.invariant-loop-node
invariant-loop-node l =
    l.time ≡ entries (λ node. count_closed l.order l.acts l.position node (l.position + 1)) 0 l.node ++ zeros (l.nodes - l.node)
