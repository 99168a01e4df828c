use Rattle.lrc_orders_ends.proofs.Ending.{none_cannot}
use Rattle.lrc_orders_ends.proofs.laws.where_every_settled_state_ends_no_order_cannot.Goals as goal

pub returns : goal.returns
returns c = none_cannot
