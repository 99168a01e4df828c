use Rattle.lrc_orders_laws.proofs.ByThreads.{others_stay}
use Rattle.lrc_orders_laws.proofs.settled_laws.after_a_step_of_one_node_the_others_are_settled.Goals as goal

pub returns : goal.returns
returns c = others_stay
