use Rattle.std.proofs.Common.{arith}
use Rattle.lrc_orders_settling.proofs.StepsSoFar.{settling_first, settling_on, has_settled}
use Rattle.lrc_orders_settling.proofs.settle.settle.Goals as goal

pub loop-node-init : goal.loop-node-init
loop-node-init c =
    settling_first c.args.flat.now c.args.state.now c.args.first c.args.last c.args.acts.now.items c.requires.state c.requires.others

pub loop-node-preserved : goal.loop-node-preserved
loop-node-preserved c =
    let n = c.loop-node in
    let e = c.in_ok-settle_node.ensures in
    settling_on c.args.flat.now c.args.state.now n.state c.settle_node.new.state c.args.first n.node c.args.last c.args.acts.now.items n.acts.items
    c.settle_node.new.acts.items n.invariant e.state (e.settled c.if-not-branch.false)
    (omega (arith, c.loop-node-test.true, n.auto.node-end, n.auto.node, c.requires.within))

pub returns-clause-settled : goal.returns-clause-settled
returns-clause-settled c = λ done.
    let n = c.loop-node in
    has_settled c.args.flat.now c.args.state.now n.state c.args.first n.node c.args.last c.args.acts.now.items n.acts.items n.invariant
    (omega (arith, c.loop-node-test.false))
