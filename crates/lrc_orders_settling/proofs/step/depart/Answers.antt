use Rattle.std.proofs.Common.{arith}
use Rattle.lrc_orders_settling.proofs.Departing.{can_depart, room, departing_on}
use Rattle.lrc_orders_settling.proofs.step.depart.Goals as goal

pub make-requires-clause-can : goal.make-requires-clause-can
make-requires-clause-can c =
    let n = c.loop-node in
    let start = c.args.state.now in
    can_depart c.args.flat.now start n.state n.node c.args.acts.now.items n.acts.items c.requires.counted c.requires.wait n.invariant
    (omega (arith, c.loop-node-test.true, n.auto.node-end, c.len-node-end.ensures, start.spots.ok.0))

pub make-requires-clause-room : goal.make-requires-clause-room
make-requires-clause-room c =
    let n = c.loop-node in
    let start = c.args.state.now in
    room c.args.flat.now start n.state n.node c.args.acts.now.items n.acts.items c.requires.counted c.requires.wait n.invariant
    (omega (arith, c.loop-node-test.true, n.auto.node-end, c.len-node-end.ensures, start.spots.ok.0))

pub loop-node-preserved : goal.loop-node-preserved
loop-node-preserved c =
    let n = c.loop-node in
    let start = c.args.state.now in
    departing_on c.args.flat.now start n.state n.node c.args.acts.now.items n.acts.items c.requires.counted c.requires.wait n.invariant
    (omega (arith, c.loop-node-test.true, n.auto.node-end, c.len-node-end.ensures, start.spots.ok.0)) c.make.new.self c.push.new.self.items
    c.make.ensures.state c.make.ensures.made c.in_ok-push.ensures.items
