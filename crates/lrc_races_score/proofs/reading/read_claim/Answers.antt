-- What is claimed, or why nothing is.
use Rattle.lrc_races_score.proofs.Spelling.{spelled_as, none_without}
use Rattle.lrc_races_score.proofs.reading.read_claim.Goals as goal

pub returns-in-Some : goal.returns-in-Some
returns-in-Some c = spelled_as c.args.body.now _ c.in-Some.ensures.0 c.worded_claim.result c.worded_claim.ensures

pub returns-in-None : goal.returns-in-None
returns-in-None c = none_without c.args.body.now c.in-None.ensures
