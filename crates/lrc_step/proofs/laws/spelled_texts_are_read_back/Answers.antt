use Rattle.lrc_step.proofs.Read.{whole_read}
use Rattle.lrc_step.proofs.laws.spelled_texts_are_read_back.Goals as goal

pub returns : goal.returns
returns c = λ text. whole_read text
