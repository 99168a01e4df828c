use Rattle.lrc_why.proofs.Lists.{each-push}
use Rattle.lrc_why.specs.Spread.{IsLearner}
use Rattle.lrc_why.proofs.spread.learners.Goals as goal

pub loop-node-preserved : goal.loop-node-preserved
loop-node-preserved c = each-push (IsLearner c.args.acts.now c.args.acting c.args.position) c.loop-node.all.items _ _ c.loop-node.node c.loop-node.invariant c.in_ok-found.ensures c.in_ok-push.ensures.items
