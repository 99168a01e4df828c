-- What is warned of in the items so far was added.
use Rattle.std.proofs.Common.{◌≡◌, ◌++◌, map, take}
use Rattle.std.specs.List.{flat_map}
use Rattle.lrc_lint_warned.specs.Found.{NodeAt, found_at, node_seen}
use Rattle.lrc_lint_warned.specs.Operations.{below_zero_kind}
use Rattle.lrc_lint_warned.proofs.operations.below_zero.Given as goal

abbrev pub invariant-loop-n : goal.invariant-loop-n
invariant-loop-n l =
    l.out.items ≡ l.fn.out.items ++ flat_map (λ (n : NodeAt). found_at n.at (below_zero_kind n.node)) (map node_seen (take l.n-index l.nodes))
