use Rattle.lrc_orders_ends.proofs.Ending.{cannot_end}
use Rattle.lrc_orders_ends.proofs.laws.an_order_to_a_state_without_end_cannot_end.Goals as goal

pub returns : goal.returns
returns c = cannot_end
