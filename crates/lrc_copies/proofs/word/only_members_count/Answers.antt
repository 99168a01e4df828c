use Rattle.lrc_copies.proofs.Fitting.{fits_agreed}
use Rattle.lrc_copies.proofs.word.only_members_count.Goals as goal

pub returns : goal.returns
returns g c = λ w w' value xs agree. fits_agreed w w' xs agree value
