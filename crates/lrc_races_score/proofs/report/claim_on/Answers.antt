use Rattle.lrc_races_score.proofs.Telling.{claim_by}
use Rattle.lrc_races_score.proofs.report.claim_on.Goals as goal

pub returns : goal.returns
returns c = claim_by c.args.line.now c.body_of.result.now c.read_claim.result c.body_of.ensures c.read_claim.ensures
