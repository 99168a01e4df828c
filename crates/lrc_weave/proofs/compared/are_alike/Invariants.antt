use Rattle.std.proofs.Common.{map}
use Rattle.lrc_weave.proofs.Comparing.{UpTo}
use Rattle.lrc_weave.proofs.Looping.{NodeSo}
use Rattle.lrc_weave.proofs.compared.are_alike.Given as goal

abbrev pub invariant-loop-node : goal.invariant-loop-node
invariant-loop-node l = UpTo (NodeSo l.wires) (map (λ log. log.items) l.logs) l.node
