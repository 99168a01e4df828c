use Rattle.lrc_races_laws.proofs.Pairs.{one_told, one_sure_told}
use Rattle.lrc_races_laws.proofs.Groupings.{one_grouping}
use Rattle.lrc_races_laws.proofs.Faults.{one_fault}
use Rattle.lrc_races_laws.proofs.told_laws.one_telling_of_events.Goals as goal

pub returns-clause-pairs : goal.returns-clause-pairs
returns-clause-pairs c = λ events one other a b. one_told events one other a b

pub returns-clause-sure : goal.returns-clause-sure
returns-clause-sure c = λ events one other a b. one_sure_told events one other a b

pub returns-clause-groups : goal.returns-clause-groups
returns-clause-groups c = λ pairs one other a b. one_grouping pairs one other a b

pub returns-clause-fault : goal.returns-clause-fault
returns-clause-fault c = λ events n one other a b. one_fault events n one other a b
