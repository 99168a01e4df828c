-- Those of the nodes so far.
use Rattle.lrc_why_chains.specs.Writes.{AreExactly}
use Rattle.lrc_why_chains.proofs.Exactly.{IsBelow}
use Rattle.lrc_why.specs.Known.{IsUnknownNode}
use Rattle.lrc_why.proofs.known.unknown_nodes.Given as goal

abbrev pub invariant-loop-node : goal.invariant-loop-node
invariant-loop-node l = AreExactly (IsBelow (IsUnknownNode l.acts l.nodes l.acting l.position) l.node) l.unknown.items
