use Rattle.lrc_lint_laws.proofs.Names.{never_set_is_zero}
use Rattle.lrc_lint_laws.proofs.program_laws.a_name_that_is_never_set_is_zero.Goals as goal

pub returns : goal.returns
returns c = λ program tokens at name is_text has nodes acts node. never_set_is_zero program tokens name at is_text has nodes acts node
