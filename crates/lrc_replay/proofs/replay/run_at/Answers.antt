use Rattle.std.proofs.Common.{arith}
use Rattle.lrc_protocol.specs.Run as log
use Rattle.lrc_replay.proofs.Replayed.{answers_none, answers_so}
use Rattle.lrc_replay.proofs.replay.run_at.Goals as goal

pub returns-then-node-len : goal.returns-then-node-len
returns-then-node-len c =
    answers_so c.args.nodes.now.items c.args.node log.run c.index_mut.result.now c.run_node.new.node c.run_node.result
    (omega (arith, c.if-node-len.true)) c.index_mut.ensures.value c.run_node.ensures

pub returns-else-node-len : goal.returns-else-node-len
returns-else-node-len c = answers_none c.args.nodes.now.items c.args.node log.run (omega arith)
