use Rattle.lrc_orders_laws.proofs.Settled.{stuck}
use Rattle.lrc_orders_laws.proofs.settled_laws.some_order_gets_stuck_where_a_settled_state_is.Goals as goal

pub returns : goal.returns
returns c = stuck
