use Rattle.lrc_orders_laws.proofs.FromThreads.{locks_settle}
use Rattle.lrc_orders_laws.proofs.settled_laws.settling_gives_locks_back.Goals as goal

pub returns : goal.returns
returns c = λ machine final acts settles. locks_settle settles
