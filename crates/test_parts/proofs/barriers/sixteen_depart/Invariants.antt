use Rattle.std.proofs.Common.{◌≡◌, length}
use Rattle.test_parts.proofs.barriers.sixteen_depart.Given as goal

abbrev pub invariant-loop-node : goal.invariant-loop-node
invariant-loop-node l = length l.manager.last ≡ 16
