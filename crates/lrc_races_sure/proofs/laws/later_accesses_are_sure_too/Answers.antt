use Rattle.lrc_races_sure.proofs.Firsts.{later_sure}
use Rattle.lrc_races_sure.proofs.laws.later_accesses_are_sure_too.Goals as goal

pub returns : goal.returns
returns c = λ events i k j a d b r at there here lt below same conflict. later_sure events i k j a d b r at there here lt below same conflict
