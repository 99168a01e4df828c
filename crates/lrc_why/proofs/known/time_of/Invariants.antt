-- Those of the nodes so far.
use Rattle.lrc_why.specs.Known.{CountsClosed}
use Rattle.lrc_why.specs.Spread.{OfEach}
use Rattle.lrc_why.proofs.known.time_of.Given as goal

abbrev pub invariant-loop-node : goal.invariant-loop-node
invariant-loop-node l = OfEach l.node (λ other count. CountsClosed l.acts other l.position count) l.time.items
