-- Those of the nodes so far.
use Rattle.lrc_step.specs.Rivals.{AreRivals}
use Rattle.lrc_step.proofs.rivals.rivals.Given as goal

abbrev pub invariant-loop-node : goal.invariant-loop-node
invariant-loop-node l = AreRivals l.acts l.lines l.node l.position l.all.items
