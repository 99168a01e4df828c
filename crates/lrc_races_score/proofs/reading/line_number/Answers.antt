-- What is claimed, or why nothing is.
use Rattle.lrc_races_score.proofs.Spelling.{zero_line, line_found}
use Rattle.lrc_races_score.proofs.reading.line_number.Goals as goal

pub returns-in_default : goal.returns-in_default
returns-in_default c = λ line n. c.in_default.ensures line n.says

pub returns-then-line-eq0 : goal.returns-then-line-eq0
returns-then-line-eq0 c = λ line n. zero_line c.args.digits.now c.in-Some.line c.in-Some.ensures c.if-line-eq0.true line n

pub returns : goal.returns
returns c = line_found c.args.digits.now c.in-Some.line c.in-Some.ensures c.if-line-eq0.false
