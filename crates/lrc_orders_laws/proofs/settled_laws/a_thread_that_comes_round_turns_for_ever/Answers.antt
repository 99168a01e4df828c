use Rattle.lrc_orders_laws.proofs.Rounds.{turns_round}
use Rattle.lrc_orders_laws.proofs.settled_laws.a_thread_that_comes_round_turns_for_ever.Goals as goal

pub returns : goal.returns
returns c = turns_round
