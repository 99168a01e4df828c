-- The first word is the node, and the others say what it does.
use Rattle.lrc_races_text.proofs.ActLemmas.{unnamed, unsaid, said}
use Rattle.lrc_races_text.proofs.acts.read_act.Goals as goal

pub returns-in_default-name_of : goal.returns-in_default-name_of
returns-in_default-name_of c = unnamed c.args.line.now _ c.in-Some.digits.now c.in-Some.rest.now c.before_comment-text.ensures c.in-Some.ensures
    c.in_default-name_of.ensures

pub returns-in_default-operation_in : goal.returns-in_default-operation_in
returns-in_default-operation_in c = unsaid c.args.line.now _ c.in-Some.digits.now c.in-Some.rest.now c.before_comment-text.ensures c.in-Some.ensures
    c.in_default-operation_in.ensures

pub returns : goal.returns
returns c = said c.args.line.now c.before_comment-text.result.now c.in-Some.digits.now c.in-Some.rest.now c.before_comment-text.ensures c.in-Some.ensures
    c.if-line-gt-LONGEST_LINE.false _ c.in-Some-name_of.ensures c.in-Some-operation_in.ensures _ c.split_at.ensures.back c.location_in.ensures
