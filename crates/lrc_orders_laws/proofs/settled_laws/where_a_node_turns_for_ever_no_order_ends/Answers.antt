use Rattle.lrc_orders_laws.proofs.Turning.{turns_still, at_rest_none_turns}
use Rattle.lrc_orders_laws.proofs.settled_laws.where_a_node_turns_for_ever_no_order_ends.Goals as goal

pub returns : goal.returns
returns c = λ machine final order acts node run turning still.
    at_rest_none_turns final node still (turns_still order machine final acts node run turning)
