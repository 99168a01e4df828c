use Rattle.lrc_named_parse.proofs.OneAnswer.{one_text, one_first_fault, not_both}
use Rattle.lrc_named_parse.proofs.laws.texts_have_one_answer.Goals as goal

pub returns-clause-program : goal.returns-clause-program
returns-clause-program c = one_text

pub returns-clause-fault : goal.returns-clause-fault
returns-clause-fault c = one_first_fault

pub returns-clause-either : goal.returns-clause-either
returns-clause-either c = not_both
