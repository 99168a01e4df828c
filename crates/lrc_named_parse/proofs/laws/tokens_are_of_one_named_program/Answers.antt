use Rattle.lrc_named_parse.proofs.Reaching.{one_program}
use Rattle.lrc_named_parse.proofs.laws.tokens_are_of_one_named_program.Goals as goal

pub returns : goal.returns
returns c = one_program
