use Rattle.lrc_lang.proofs.Reaching.{one_program}
use Rattle.lrc_lang.proofs.parser.tokens_are_of_one_program.Goals as goal

pub returns : goal.returns
returns c = λ tokens p q. one_program tokens p q
