use Rattle.lrc_node_laws.proofs.Always.{between_at, met_at}
use Rattle.lrc_node_laws.proofs.laws.remembered_times_are_between.Goals as goal

pub returns-clause-remembered : goal.returns-clause-remembered
returns-clause-remembered c = λ node page r. between_at node r page

pub returns-clause-met : goal.returns-clause-met
returns-clause-met c = λ node need r f met. met_at node r need f met
