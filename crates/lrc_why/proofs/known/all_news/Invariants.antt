-- Those of the nodes so far.
use Rattle.lrc_why.specs.Known.{IsNewsIfKnown}
use Rattle.lrc_why.specs.Spread.{OfEach}
use Rattle.lrc_why.proofs.known.all_news.Given as goal

abbrev pub invariant-loop-node : goal.invariant-loop-node
invariant-loop-node l = OfEach l.node (λ other found. IsNewsIfKnown l.acts l.acting other l.position found) l.all.items
