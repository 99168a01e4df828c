use Rattle.lrc_order_laws.proofs.DepartLine.{all_learn}
use Rattle.lrc_order_laws.proofs.barriers.departs_learn_what_all_arrived_with.Goals as goal

pub returns : goal.returns
returns c = λ program nodes options events world j node e does. all_learn program nodes options events world e j node does
