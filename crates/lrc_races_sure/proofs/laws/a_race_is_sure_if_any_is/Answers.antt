use Rattle.std.proofs.Common.{arith}
use Rattle.lrc_races_sure.proofs.Firsts.{some_sure}
use Rattle.lrc_races_sure.proofs.laws.a_race_is_sure_if_any_is.Goals as goal

pub returns : goal.returns
returns c = λ events i j r. some_sure events j i j (omega arith) r
