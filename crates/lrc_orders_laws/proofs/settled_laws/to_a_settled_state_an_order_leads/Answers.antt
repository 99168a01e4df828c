use Rattle.lrc_orders_laws.proofs.Settled.{state_run, state_settled}
use Rattle.lrc_orders_laws.proofs.settled_laws.to_a_settled_state_an_order_leads.Goals as goal

pub returns : goal.returns
returns c = λ program nodes acts machine state. (state_run state, state_settled state)
