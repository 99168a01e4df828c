-- Steps lead on from no more states than there are.
use Rattle.std.proofs.Common.{◌+◌, ◌-◌}
use Rattle.lrc_lazy_run.specs.Ways.{AreWays}
use Rattle.lrc_lazy_run.proofs.ways.Ways.find_by_steps.Given as goal

abbrev pub invariant-loop-next : goal.invariant-loop-next
invariant-loop-next l = AreWays l.sought l.self

abbrev pub decreases-loop-next : goal.decreases-loop-next
decreases-loop-next l = l.sought.most + 1 - l.next
