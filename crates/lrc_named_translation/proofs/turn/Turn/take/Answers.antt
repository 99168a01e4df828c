-- What has been pushed.
use Rattle.lrc_named_core.specs.View.{expression_of}
use Rattle.lrc_named_translation.proofs.Turned.{turn_added}
use Rattle.lrc_named_translation.proofs.turn.Turn.take.Goals as goal

pub returns : goal.returns
returns c =
    turn_added c.args.self.origin c.args.self.kind c.args.self.left c.args.self.whole (expression_of c.args.left) (expression_of c.args.right)
    c.in_ok-first.first c.in_ok-second.second c.in_ok-test.test c.args.inside.items c.push.new.self c.new.result c.args.before.now.items
    c.push-2.new.self.items c.push-3.new.self.items c.in_ok-first.ensures c.in_ok-second.ensures c.in_ok-test.ensures
    c.in_ok-push.ensures.items c.new.ensures.items c.in_ok-push-2.ensures.items c.in_ok-push-3.ensures.items
