-- It is true, or false for a reason.
use Rattle.std.proofs.Common.{refl}
use Rattle.lrc_races_lines.specs.Table.{names_of}
use Rattle.lrc_races_score.specs.Claims.{statement_of}
use Rattle.lrc_races_claims.proofs.Saying.{false_said, true_said}
use Rattle.lrc_races_claims.proofs.spelling.push_verdict.Goals as goal

pub returns-in-True : goal.returns-in-True
returns-in-True c =
    true_said c.push_three.result c.args.sought (names_of c.args.threads.now) (statement_of c.args.claim) c.args.verdict c.args.text.now.items
    c.push_three.new.text.items _ c.in-True.is c.push_three.ensures refl

pub returns-in_ok-push_three-in-False : goal.returns-in_ok-push_three-in-False
returns-in_ok-push_three-in-False c =
    false_said c.push_reason.result c.args.sought (names_of c.args.threads.now) (statement_of c.args.claim) c.args.verdict c.in-False.reason
    c.args.text.now.items c.push_three-in-False.new.text.items c.push_reason.new.text.items _ c.in-False.is c.in_ok-push_three-in-False.ensures
    c.push_reason.ensures refl
