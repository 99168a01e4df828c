use Rattle.lrc_copies.proofs.Fitting.{fits_writers}
use Rattle.lrc_copies.proofs.word.only_writers_count.Goals as goal

pub returns : goal.returns
returns g c = λ w value xs ys. fits_writers w value xs ys
