use Rattle.lrc_orders_table.proofs.Stepping.{all_settle}
use Rattle.lrc_orders_table.proofs.laws.each_thread_settles_after_the_step_of_all.Goals as goal

pub returns : goal.returns
returns c = all_settle
