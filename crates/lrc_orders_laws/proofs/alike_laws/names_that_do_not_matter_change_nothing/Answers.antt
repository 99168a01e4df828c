use Rattle.lrc_orders_laws.proofs.Mattering.{go_on}
use Rattle.lrc_orders_laws.proofs.alike_laws.names_that_do_not_matter_change_nothing.Goals as goal

pub returns : goal.returns
returns c = go_on
