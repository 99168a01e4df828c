use Rattle.lrc_races_score.proofs.Telling.{nothing_by}
use Rattle.lrc_races_score.proofs.report.says_nothing.Goals as goal

pub returns : goal.returns
returns c = nothing_by c.args.line.now c.body_of.result.now c.is_blank.result c.body_of.ensures c.is_blank.ensures
