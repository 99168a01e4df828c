use Rattle.std.proofs.Common.{arith}
use Rattle.lrc_world.proofs.NodeTurns.{keeps_all, keeps_newest, keeps_none}
use Rattle.lrc_world.proofs.world.trim.Goals as goal

pub returns-in-All : goal.returns-in-All
returns-in-All c = keeps_all c.args.nodes.now.items c.args.node c.args.keep c.in-All.is

pub returns-then-node-len : goal.returns-then-node-len
returns-then-node-len c =
    keeps_newest c.args.nodes.now.items c.args.node c.index_mut.result.now c.forget.new.self c.args.keep c.in-Newest.is
    (omega (arith, c.if-node-len.true)) c.index_mut.ensures.value c.forget.ensures.log c.forget.ensures.trace

pub returns-else-node-len : goal.returns-else-node-len
returns-else-node-len c = keeps_none c.args.nodes.now.items c.args.node c.args.keep (omega (arith, c.if-node-len.false))
