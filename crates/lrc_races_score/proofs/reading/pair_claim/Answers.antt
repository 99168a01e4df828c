-- What is claimed, or why nothing is.
use Rattle.lrc_races_score.proofs.Spelling.{no_pair_without, no_pair, pair_spelled}
use Rattle.lrc_races_score.proofs.reading.pair_claim.Goals as goal

pub returns-in_default : goal.returns-in_default
returns-in_default c = no_pair_without c.args.rest.now c.in_default.ensures

pub returns-in_default-line_number : goal.returns-in_default-line_number
returns-in_default-line_number c =
    no_pair c.args.rest.now c.in-Some.digits.now c.in-Some.others.now c.in-Some.ensures.0 c.in-Some.ensures.1
    (λ line other h g. c.in_default-line_number.ensures line h)

pub returns-in_default-line_number-2 : goal.returns-in_default-line_number-2
returns-in_default-line_number-2 c =
    no_pair c.args.rest.now c.in-Some.digits.now c.in-Some.others.now c.in-Some.ensures.0 c.in-Some.ensures.1
    (λ line other h g. c.in_default-line_number-2.ensures other g)

pub returns : goal.returns
returns c = pair_spelled c.args.rest.now c.in-Some.digits.now c.in-Some.others.now c.in-Some-line_number.line c.in-Some-line_number-2.other c.in-Some.ensures.0
    c.in-Some-line_number.ensures c.in-Some-line_number-2.ensures
