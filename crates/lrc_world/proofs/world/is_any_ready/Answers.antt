use Rattle.std.proofs.Common.{◌∙◌, sym, arith}
use Rattle.lrc_protocol.specs.Turn.{is_ready}
use Rattle.lrc_protocol.specs.Run.{Logged}
use Rattle.lrc_world.proofs.Over.{none_more, one_is}
use Rattle.lrc_world.proofs.NodeTurns.{stands_at}
use Rattle.lrc_world.proofs.world.is_any_ready.Goals as goal

pub returns-then-ready : goal.returns-then-ready
returns-then-ready c = λ all e.
    let s = stands_at c.args.nodes.now all c.loop-node.node-index c.node-item.result e (omega (arith, c.loop-node-test.true)) c.node-item.is in
    sym (one_is (λ (l : Logged). is_ready l.node) all c.loop-node.node-index s.0 s.1 (sym (c.ready.ensures.sound s.0 s.2) ∙ c.if-ready.true))

pub loop-node-preserved : goal.loop-node-preserved
loop-node-preserved c = λ all e.
    let s = stands_at c.args.nodes.now all c.loop-node.node-index c.node-item.result e (omega (arith, c.loop-node-test.true)) c.node-item.is in
    none_more (λ (l : Logged). is_ready l.node) all c.loop-node.node-index s.0 s.1 (c.loop-node.invariant all e)
    (sym (c.ready.ensures.sound s.0 s.2) ∙ c.if-ready.false)
