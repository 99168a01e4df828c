use Rattle.lrc_named_may.proofs.FirstFaults.{first_of_text, no_first_fault}
use Rattle.lrc_named_may.proofs.first_fault.first_faults_are_those_of_texts.Goals as goal

pub returns-clause-fault : goal.returns-clause-fault
returns-clause-fault c = λ text all index kind may_stand fits are first. first_of_text text all index kind may_stand fits are first

pub returns-clause-none : goal.returns-clause-none
returns-clause-none c = λ text all tokens fits are faultless place kind h. no_first_fault text all tokens fits are faultless place kind h
