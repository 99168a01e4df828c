use Rattle.lrc_orders_table.proofs.Stepping.{one_settles}
use Rattle.lrc_orders_table.proofs.laws.one_thread_settles_after_the_step_of_one_node.Goals as goal

pub returns : goal.returns
returns c = one_settles
