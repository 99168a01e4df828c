use Rattle.lrc_orders_laws.proofs.Settled.{ends_in_race}
use Rattle.lrc_orders_laws.proofs.settled_laws.a_meeting_of_a_settled_state_ends_in_a_race.Goals as goal

pub returns : goal.returns
returns c = ends_in_race
