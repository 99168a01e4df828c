use Rattle.lrc_orders_undisputed.proofs.Searching.{outcomes}
use Rattle.lrc_orders_undisputed.proofs.laws.states_that_suffice_tell_outcomes.Goals as goal

pub returns : goal.returns
returns c = outcomes
