use Rattle.lrc_races_sure.proofs.Firsts.{sure_told}
use Rattle.lrc_races_sure.proofs.laws.sure_pairs_are_told.Goals as goal

pub returns : goal.returns
returns c = λ events pair told. sure_told events pair told
