use Rattle.lrc_why.proofs.Lists.{each-push}
use Rattle.lrc_step.specs.Rivals.{IsRivalIfAny}
use Rattle.lrc_step.proofs.rivals.rivals.Goals as goal

pub loop-node-preserved : goal.loop-node-preserved
loop-node-preserved c = each-push (IsRivalIfAny c.args.acts.now c.args.lines.now c.args.position) c.loop-node.all.items _ _ c.loop-node.node c.loop-node.invariant c.rival_of.ensures c.in_ok-push.ensures.items
