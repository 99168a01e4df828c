use Rattle.lrc_node_laws.proofs.Always.{exact_at, is_store_at, own_next, can_be_added}
use Rattle.lrc_node_laws.proofs.laws.intervals_are_stored_exactly.Goals as goal

pub returns-clause-exact : goal.returns-clause-exact
returns-clause-exact c = λ node r. exact_at node r

pub returns-clause-store : goal.returns-clause-store
returns-clause-store c = λ node r. is_store_at node r

pub returns-clause-own : goal.returns-clause-own
returns-clause-own c = λ node r. own_next node r

pub returns-clause-news : goal.returns-clause-news
returns-clause-news c = λ node time intervals r e. can_be_added node time intervals r e
