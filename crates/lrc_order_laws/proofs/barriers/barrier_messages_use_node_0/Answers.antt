use Rattle.lrc_order_laws.proofs.Addressed.{all_addressed}
use Rattle.lrc_order_laws.proofs.barriers.barrier_messages_use_node_0.Goals as goal

pub returns-clause-arrive : goal.returns-clause-arrive
returns-clause-arrive c = λ program nodes options events world e m run there says. (all_addressed program nodes options events world run).arrive e m there says

pub returns-clause-depart : goal.returns-clause-depart
returns-clause-depart c = λ program nodes options events world e m run there says. (all_addressed program nodes options events world run).depart e m there says

pub returns-clause-clean : goal.returns-clause-clean
returns-clause-clean c = λ program nodes options events world e k run there says. (all_addressed program nodes options events world run).clean e k there says

pub returns-clause-discard : goal.returns-clause-discard
returns-clause-discard c = λ program nodes options events world e k run there says. (all_addressed program nodes options events world run).word e k there says
