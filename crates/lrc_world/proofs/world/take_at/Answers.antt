use Rattle.std.proofs.Common.{arith}
use Rattle.lrc_protocol.specs.Run as log
use Rattle.lrc_world.proofs.NodeTurns.{turned, unturned}
use Rattle.lrc_world.proofs.world.take_at.Goals as goal

pub returns-then-node-len : goal.returns-then-node-len
returns-then-node-len c =
    turned c.args.nodes.now.items c.args.node c.index_mut.result.now c.take.new.self (log.taken c.args.envelope) c.args.stamp c.take.result
    (omega (arith, c.if-node-len.true)) c.index_mut.ensures.value c.take.ensures.logs c.take.ensures.notes

pub returns-else-node-len : goal.returns-else-node-len
returns-else-node-len c = unturned c.args.nodes.now.items c.args.node (log.taken c.args.envelope) c.args.stamp (omega arith)
