-- What is claimed, or why nothing is.
use Rattle.lrc_races_score.proofs.Spelling.{no_first_without, no_first, first_spelled, is_true, is_false}
use Rattle.lrc_races_score.proofs.reading.first_claim.Goals as goal

pub returns-in_default : goal.returns-in_default
returns-in_default c = no_first_without c.args.rest.now c.in_default.ensures

pub returns-then-not-is_name : goal.returns-then-not-is_name
returns-then-not-is_name c =
    no_first c.args.rest.now c.in-Some.name.now c.in-Some.digits.now c.in-Some.ensures.0 c.in-Some.ensures.1
    (λ line h g. is_false c.is_name.result _ c.is_name.ensures c.if-not-is_name.true h)

pub returns-in_default-line_number : goal.returns-in_default-line_number
returns-in_default-line_number c =
    no_first c.args.rest.now c.in-Some.name.now c.in-Some.digits.now c.in-Some.ensures.0 c.in-Some.ensures.1
    (λ line h g. c.in_default-line_number.ensures line g)

pub returns : goal.returns
returns c = first_spelled c.args.rest.now c.in-Some.name.now c.in-Some.digits.now c.in-Some-line_number.line c.in-Some.ensures.0
    (is_true c.is_name.result _ c.is_name.ensures c.if-not-is_name.false) c.in-Some-line_number.ensures
