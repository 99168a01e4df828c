use Rattle.lrc_orders_laws.proofs.Settled.{traps}
use Rattle.lrc_orders_laws.proofs.settled_laws.no_order_traps_where_no_way_to_a_settled_state_does.Goals as goal

pub returns : goal.returns
returns c = traps
