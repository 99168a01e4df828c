use Rattle.lrc_chart_laws.proofs.Telling.{told_are_made}
use Rattle.lrc_chart_laws.proofs.laws.turns_told_are_those_made.Goals as goal

pub returns : goal.returns
returns c program nodes options events end goes = told_are_made program nodes options events end goes
