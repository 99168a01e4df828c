-- What is claimed, or why nothing is.
use Rattle.lrc_races_score.specs.Claims.{spells_event}
use Rattle.lrc_races_score.proofs.Spelling.{no_event}
use Rattle.lrc_races_score.proofs.reading.event_claim.Goals as goal

pub returns-in_default : goal.returns-in_default
returns-in_default c = no_event c.args.rest.now c.in_default.ensures

pub returns : goal.returns
returns c = spells_event c.in-Some.ensures
