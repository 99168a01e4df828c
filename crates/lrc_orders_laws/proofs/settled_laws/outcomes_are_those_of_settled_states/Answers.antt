use Rattle.lrc_orders_laws.proofs.Settled.{outcomes}
use Rattle.lrc_orders_laws.proofs.settled_laws.outcomes_are_those_of_settled_states.Goals as goal

pub returns : goal.returns
returns c = outcomes
