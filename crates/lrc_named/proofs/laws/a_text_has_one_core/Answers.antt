use Rattle.lrc_named.proofs.OneCore.{no_fault, one_core, one_count, one_fault, one_holding, one_telling, one_trapping}
use Rattle.lrc_named.proofs.laws.a_text_has_one_core.Goals as goal

pub returns-clause-core : goal.returns-clause-core
returns-clause-core c = one_core

pub returns-clause-lines : goal.returns-clause-lines
returns-clause-lines c = one_telling

pub returns-clause-traps : goal.returns-clause-traps
returns-clause-traps c = one_trapping

pub returns-clause-held : goal.returns-clause-held
returns-clause-held c = one_holding

pub returns-clause-nodes : goal.returns-clause-nodes
returns-clause-nodes c = one_count

pub returns-clause-either : goal.returns-clause-either
returns-clause-either c = no_fault

pub returns-clause-fault : goal.returns-clause-fault
returns-clause-fault c = one_fault
