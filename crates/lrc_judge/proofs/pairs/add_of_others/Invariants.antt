-- The pairs with the nodes so far are added.
use Rattle.lrc_judge.specs.Adding.{Adds}
use Rattle.lrc_judge.specs.Pairs.{IsOfOthers}
use Rattle.lrc_judge.proofs.pairs.add_of_others.Given as goal

abbrev pub invariant-loop-other : goal.invariant-loop-other
invariant-loop-other l = Adds l.fn.pairs.items l.pairs.items
    (IsOfOthers l.among l.order l.entry.lane.word l.entry.lane.node l.other l.entry.position)
