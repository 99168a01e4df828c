use Rattle.lrc_races_sure.proofs.Firsts.{sure-race}
use Rattle.lrc_races_sure.proofs.laws.sure_races_race.Goals as goal

pub returns : goal.returns
returns c = λ events i j r. sure-race events i j r
