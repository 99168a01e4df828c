use Rattle.lrc_lang.proofs.FirstFaults.{first_of_text}
use Rattle.lrc_lang.proofs.first_fault.first_faults_are_those_of_texts.Goals as goal

pub returns : goal.returns
returns c = λ text all index kind may_stand fits are first. first_of_text text all index kind may_stand fits are first
