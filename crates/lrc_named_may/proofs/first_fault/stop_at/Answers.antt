use Rattle.lrc_named_tokens.specs.View.{lexeme_of}
use Rattle.lrc_named_may.proofs.Stopping.{refused, stopped_by}
use Rattle.lrc_named_may.proofs.first_fault.stop_at.Goals as goal

pub returns-in-Some : goal.returns-in-Some
returns-in-Some c =
    refused c.in-Some.kind c.args.state.now c.args.limits.now c.args.at (lexeme_of c.args.lexeme) c.in_ok-may_stand.may_stand.items
    (c.in-Some.ensures c.args.at) (c.in_ok-may_stand.ensures c.args.at)

pub returns-in_ok-stop_for-in-Err : goal.returns-in_ok-stop_for-in-Err
returns-in_ok-stop_for-in-Err c =
    stopped_by c.in_ok-stop_for-in-Err.field-0 c.in-Err.kind c.args.state.now c.take.new.state c.args.limits.now c.take.new.limits c.args.at
    (lexeme_of c.args.lexeme) c.in_ok-stop_for-in-Err.ensures.kind c.in_ok-stop_for-in-Err.ensures.other (c.in_default.ensures c.args.at) c.in-Err.ensures
