use Rattle.lrc_races_trace.proofs.Told.{race_told}
use Rattle.lrc_races_trace.proofs.laws.each_race_is_told.Goals as goal

pub returns : goal.returns
returns c = λ events pairs i j a told at race. race_told events pairs told i j a at race
