use Rattle.std.proofs.Common.{map}
use Rattle.lrc_weave.proofs.Comparing.{UpTo}
use Rattle.lrc_weave.proofs.Looping.{OwnSo}
use Rattle.lrc_weave.proofs.owner.are_all_own.Given as goal

abbrev pub invariant-loop-node : goal.invariant-loop-node
invariant-loop-node l = UpTo (OwnSo l.wires) (map (λ log. log.items) l.logs) l.node
