use Rattle.lrc_acts.proofs.OneLemmas.{one_list, not_both, one_bad_line, too_long}
use Rattle.lrc_acts.proofs.laws.texts_of_acts_have_one_answer.Goals as goal

pub returns-clause-acts : goal.returns-clause-acts
returns-clause-acts c = one_list

pub returns-clause-never_both : goal.returns-clause-never_both
returns-clause-never_both c = not_both

pub returns-clause-line : goal.returns-clause-line
returns-clause-line c = one_bad_line

pub returns-clause-too_long : goal.returns-clause-too_long
returns-clause-too_long c = too_long
