use Rattle.lrc_orders_laws.proofs.FromThreads.{settles_together}
use Rattle.lrc_orders_laws.proofs.settled_laws.where_the_threads_settle_the_state_does.Goals as goal

pub returns : goal.returns
returns c = settles_together
