use Rattle.lrc_orders_laws.proofs.Settled.{races}
use Rattle.lrc_orders_laws.proofs.settled_laws.a_race_is_a_meeting_of_a_settled_state.Goals as goal

pub returns : goal.returns
returns c = races
