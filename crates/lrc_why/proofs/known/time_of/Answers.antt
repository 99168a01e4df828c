use Rattle.lrc_why.proofs.Lists.{each-push}
use Rattle.lrc_why.specs.Known.{CountsClosed}
use Rattle.lrc_why.proofs.known.time_of.Goals as goal

pub loop-node-preserved : goal.loop-node-preserved
loop-node-preserved c = each-push (λ other count. CountsClosed c.args.acts.now other c.args.position count) c.loop-node.time.items _ _ c.loop-node.node c.loop-node.invariant c.in_ok-count.ensures c.in_ok-push.ensures.items
