use Rattle.lrc_copies.proofs.Repairing.{fits_all_next}
use Rattle.lrc_copies.proofs.word.repairing_keeps_the_fit.Goals as goal

pub returns : goal.returns
returns g c = λ w all xs more value sound within next. fits_all_next w all sound xs more value within next
