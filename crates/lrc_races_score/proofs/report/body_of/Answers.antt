-- The line but its carriage return.
use Rattle.std.proofs.Common.{sym, subst}
use Rattle.lrc_races_lines.specs.Line.{IsBody, returned, unreturned}
use Rattle.lrc_races_score.proofs.report.body_of.Goals as goal

pub returns-in-Some : goal.returns-in-Some
returns-in-Some c = subst (λ l. IsBody l c.in-Some.body.now) (sym c.in-Some.ensures) returned

pub returns-in-None : goal.returns-in-None
returns-in-None c = unreturned c.in-None.ensures
