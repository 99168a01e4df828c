use Rattle.lrc_lang.proofs.Beginnings.{lines_same}
use Rattle.lrc_lang.proofs.lines.lines_are_of_one_text.Goals as goal

pub returns : goal.returns
returns c = λ text p q lines others h k. lines_same text p q lines others h k
