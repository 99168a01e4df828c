use Rattle.std.proofs.Common.{arith}
use Rattle.lrc_protocol.specs.Run as log
use Rattle.lrc_replay.proofs.Replayed.{answers_none, answers_so}
use Rattle.lrc_replay.proofs.replay.take_at.Goals as goal

pub returns-then-to-len : goal.returns-then-to-len
returns-then-to-len c =
    answers_so c.args.nodes.now.items c.args.to (log.taken c.args.envelope.now) c.index_mut.result.now c.take_node.new.node c.take_node.result
    (omega (arith, c.if-to-len.true)) c.index_mut.ensures.value c.take_node.ensures

pub returns-else-to-len : goal.returns-else-to-len
returns-else-to-len c = answers_none c.args.nodes.now.items c.args.to (log.taken c.args.envelope.now) (omega arith)
