use Rattle.lrc_orders_laws.proofs.Certified.{certified}
use Rattle.lrc_orders_laws.proofs.settled_laws.settled_states_without_a_meeting_certify.Goals as goal

pub returns : goal.returns
returns c = certified
