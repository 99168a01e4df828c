-- The open states so far were looked at.
use Rattle.std.proofs.Common.{◌≤◌, ◌-◌, length}
use Rattle.lrc_explore_less.proofs.Seeking.{Seeking}
use Rattle.lrc_explore_less.proofs.less.Less.seek.Given as goal

abbrev pub invariant-loop-index : goal.invariant-loop-index
invariant-loop-index l = Seeking l.task l.self l.index l.races l.stuck × (l.index ≤ length l.self.opens.items)

abbrev pub decreases-loop-index : goal.decreases-loop-index
decreases-loop-index l = l.task.most - l.index
