-- Those of the nodes so far.
use Rattle.lrc_why.specs.Spread.{IsLearner, OfEach}
use Rattle.lrc_why.proofs.spread.learners.Given as goal

abbrev pub invariant-loop-node : goal.invariant-loop-node
invariant-loop-node l = OfEach l.node (IsLearner l.acts l.acting l.position) l.all.items
