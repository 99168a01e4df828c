use Rattle.lrc_lint_warned.specs.Found.{NodeAt, found_at, node_seen}
use Rattle.lrc_lint_warned.specs.Operations.{below_zero_kind}
use Rattle.lrc_lint_warned.proofs.Lists.{flat_all, flat_more, flat_none}
use Rattle.lrc_lint_warned.proofs.operations.below_zero.Goals as goal

pub loop-n-init : goal.loop-n-init
loop-n-init c = flat_none (λ (n : NodeAt). found_at n.at (below_zero_kind n.node)) node_seen c.args.nodes.now c.args.out.now.items

pub loop-n-preserved : goal.loop-n-preserved
loop-n-preserved c =
    flat_more (λ (n : NodeAt). found_at n.at (below_zero_kind n.node)) node_seen c.args.nodes.now c.loop-n.n-index c.n-item.result _ _ _
    c.loop-n-test.true c.n-item.is c.loop-n.invariant
    (rw c.below_zero_kind.ensures at c.in_ok-push_found.ensures)

pub returns : goal.returns
returns c =
    flat_all (λ (n : NodeAt). found_at n.at (below_zero_kind n.node)) node_seen c.args.nodes.now c.loop-n.n-index _ _
    c.loop-n-test.false c.loop-n.invariant
