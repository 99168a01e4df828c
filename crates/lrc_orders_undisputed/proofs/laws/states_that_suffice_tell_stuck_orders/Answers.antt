use Rattle.lrc_orders_undisputed.proofs.Searching.{stucks}
use Rattle.lrc_orders_undisputed.proofs.laws.states_that_suffice_tell_stuck_orders.Goals as goal

pub returns : goal.returns
returns c = stucks
