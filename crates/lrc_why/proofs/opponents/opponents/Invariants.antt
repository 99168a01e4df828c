-- Those of the nodes so far.
use Rattle.lrc_why.specs.Parting.{IsOpponentIfAny}
use Rattle.lrc_why.specs.Spread.{OfEach}
use Rattle.lrc_why.proofs.opponents.opponents.Given as goal

abbrev pub invariant-loop-node : goal.invariant-loop-node
invariant-loop-node l = OfEach l.node (λ other found. IsOpponentIfAny l.acts other l.position found) l.all.items
