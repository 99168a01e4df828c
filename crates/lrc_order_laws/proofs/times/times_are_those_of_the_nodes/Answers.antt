use Rattle.lrc_order_laws.proofs.TimesOfRuns.{acts_of_nodes, times_of_nodes}
use Rattle.lrc_order_laws.proofs.times.times_are_those_of_the_nodes.Goals as goal

pub returns-clause-nodes : goal.returns-clause-nodes
returns-clause-nodes c = acts_of_nodes

pub returns-clause-times : goal.returns-clause-times
returns-clause-times c = times_of_nodes
