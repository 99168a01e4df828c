use Rattle.lrc_copies.proofs.Repairing.{fits_next}
use Rattle.lrc_copies.proofs.word.adding_one_keeps_the_fit.Goals as goal

pub returns : goal.returns
returns g c = λ w all xs x value sound within next. fits_next w all xs x sound within next value
