use Rattle.lrc_copies.proofs.Heaviest.{found_last}
use Rattle.lrc_copies.proofs.word.ordered_writers_have_a_last.Goals as goal

pub returns : goal.returns
returns g c = λ w xs lighter ordered. found_last w xs lighter ordered
