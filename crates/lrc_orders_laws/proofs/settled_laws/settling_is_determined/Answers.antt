use Rattle.lrc_orders_laws.proofs.Rounds.{one_settling}
use Rattle.lrc_orders_laws.proofs.settled_laws.settling_is_determined.Goals as goal

pub returns : goal.returns
returns c = λ machine there other acts others one two. one_settling one two
