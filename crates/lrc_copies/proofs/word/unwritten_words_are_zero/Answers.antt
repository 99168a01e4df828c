use Rattle.lrc_copies.proofs.Fitting.{unwritten_zero}
use Rattle.lrc_copies.proofs.word.unwritten_words_are_zero.Goals as goal

pub returns : goal.returns
returns g c = λ w value xs. unwritten_zero w value xs
