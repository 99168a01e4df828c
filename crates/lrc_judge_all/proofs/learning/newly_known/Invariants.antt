use Rattle.lrc_judge_all.proofs.Readers.{IsBatchTo}
use Rattle.lrc_judge_all.proofs.learning.newly_known.Given as goal

-- the nodes so far are gone through
abbrev pub invariant-loop-node : goal.invariant-loop-node
invariant-loop-node l = IsBatchTo l.order l.acts l.position l.initial.next l.node l.next l.batch.items
