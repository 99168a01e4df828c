use Rattle.lrc_explain.proofs.Fates.{ended_did, trapped_did, unfinished_is}
use Rattle.lrc_explain.proofs.laws.how_a_node_ended_its_acts_did.Goals as goal

pub returns-clause-unfinished : goal.returns-clause-unfinished
returns-clause-unfinished c = λ run node. unfinished_is run node

pub returns-clause-ended : goal.returns-clause-ended
returns-clause-ended c = λ run node is. ended_did run node is

pub returns-clause-trapped : goal.returns-clause-trapped
returns-clause-trapped c = λ run node cause is. trapped_did run node cause is
