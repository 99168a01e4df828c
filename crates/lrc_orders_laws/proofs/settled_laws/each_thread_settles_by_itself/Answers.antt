use Rattle.lrc_orders_laws.proofs.ByThreads.{by_threads}
use Rattle.lrc_orders_laws.proofs.settled_laws.each_thread_settles_by_itself.Goals as goal

pub returns : goal.returns
returns c = λ machine final acts settles. by_threads settles
