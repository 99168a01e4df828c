-- The open states so far were gathered.
use Rattle.std.proofs.Common.{◌≤◌, ◌-◌, length}
use Rattle.lrc_explore_less.proofs.Seeking.{Gathering}
use Rattle.lrc_explore_less.proofs.less.Less.gather.Given as goal

abbrev pub invariant-loop-index : goal.invariant-loop-index
invariant-loop-index l = Gathering l.task l.self l.outcomes.keys l.index × (l.index ≤ length l.self.opens.items)

abbrev pub decreases-loop-index : goal.decreases-loop-index
decreases-loop-index l = l.task.most - l.index
