use Rattle.lrc_why.proofs.Lists.{each-push}
use Rattle.lrc_why.specs.Parting.{IsOpponentIfAny}
use Rattle.lrc_why.proofs.opponents.opponents.Goals as goal

pub loop-node-preserved : goal.loop-node-preserved
loop-node-preserved c = each-push (λ other found. IsOpponentIfAny c.args.acts.now other c.args.position found) c.loop-node.all.items _ _ c.loop-node.node c.loop-node.invariant c.in_ok-found.ensures c.in_ok-push.ensures.items
