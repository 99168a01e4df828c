-- What is claimed, or why nothing is.
use Rattle.lrc_races_score.specs.Claims.{spells_variable}
use Rattle.lrc_races_score.proofs.Spelling.{no_variable, is_true, is_false}
use Rattle.lrc_races_score.proofs.reading.variable_claim.Goals as goal

pub returns-then-not-is_name : goal.returns-then-not-is_name
returns-then-not-is_name c = no_variable c.args.rest.now (is_false c.is_name.result _ c.is_name.ensures c.if-not-is_name.true)

pub returns : goal.returns
returns c = spells_variable (is_true c.is_name.result _ c.is_name.ensures c.if-not-is_name.false)
