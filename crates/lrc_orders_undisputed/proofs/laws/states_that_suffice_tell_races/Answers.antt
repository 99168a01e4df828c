use Rattle.lrc_orders_undisputed.proofs.Searching.{races}
use Rattle.lrc_orders_undisputed.proofs.laws.states_that_suffice_tell_races.Goals as goal

pub returns : goal.returns
returns c = races
