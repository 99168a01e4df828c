use Rattle.lrc_copies.proofs.Fitting.{fits_open}
use Rattle.lrc_copies.proofs.word.open_interval_keeps_the_fit.Goals as goal

pub returns : goal.returns
returns g c = λ w value x xs. fits_open w value x xs
