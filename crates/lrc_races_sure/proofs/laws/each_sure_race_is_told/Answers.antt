use Rattle.lrc_races_sure.proofs.Told.{race_told}
use Rattle.lrc_races_sure.proofs.laws.each_sure_race_is_told.Goals as goal

pub returns : goal.returns
returns c = λ events pairs i j a told at race. race_told events pairs told i j a at race
