use Rattle.lrc_orders_undisputed.proofs.Searching.{all_shown}
use Rattle.lrc_orders_undisputed.proofs.laws.states_that_suffice_show_all.Goals as goal

pub returns : goal.returns
returns c = all_shown
