use Rattle.lrc_copies.proofs.Fitting.{zero_fits}
use Rattle.lrc_copies.proofs.word.zero_fits_nothing.Goals as goal

pub returns : goal.returns
returns g c = λ w. zero_fits w
