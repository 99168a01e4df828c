use Rattle.std.proofs.Common.{rules}
use Rattle.lrc_text.specs.Front.{BeginsWith}
use Rattle.lrc_text.proofs.Fronts.{begins_still}
use Rattle.lrc_explain_waits.proofs.circles.push_way.Goals as goal

pub returns-in_err-push_wait-clause-err : goal.returns-in_err-push_wait-clause-err
returns-in_err-push_wait-clause-err c =
    let begins : BeginsWith c.push_wait.new.text.items c.args.text.now.items =
    begins_still c.args.text.now.items _ c.loop-node.text.items c.push_wait.new.text.items c.loop-node.invariant c.in_err-push_wait.ensures.err in
    search rules
