use Rattle.lrc_order_laws.proofs.PresentTimes.{all_present}
use Rattle.lrc_order_laws.proofs.laws.node_time_is_that_of_its_last_act.Goals as goal

pub returns : goal.returns
returns c = λ program nodes options events world n l e at. ((all_present program nodes options events world e).each n l at).present
