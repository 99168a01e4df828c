-- The pairs with the nodes so far are added.
use Rattle.lrc_judge.specs.Adding.{Adds}
use Rattle.lrc_judge.proofs.Additions.{IsBelow}
use Rattle.lrc_step.specs.Shown.{StandsForNode}
use Rattle.lrc_step.proofs.shown.add_pairs_of.Given as goal

abbrev pub invariant-loop-node : goal.invariant-loop-node
invariant-loop-node l = Adds l.fn.pairs.items l.pairs.items (IsBelow (StandsForNode l.acts l.part l.position) l.node)
