use Rattle.lrc_races_sure.proofs.Firsts.{first_sure}
use Rattle.lrc_races_sure.proofs.laws.races_of_the_first_racing_access_are_sure.Goals as goal

pub returns : goal.returns
returns c = λ events i j r none. first_sure events i j r none
