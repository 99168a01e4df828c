use Rattle.lrc_order_laws.proofs.Departs.{all_departed}
use Rattle.lrc_order_laws.proofs.barriers.departs_follow_all_arrives.Goals as goal

pub returns : goal.returns
returns c = λ program nodes options events world j node e does other lt. all_departed program nodes options events world e j node does other lt
