use Rattle.lrc_orders_disputes.proofs.Onward.{undisputed_at_places}
use Rattle.lrc_orders_disputes.proofs.laws.acts_that_no_place_disputes_are_undisputed.Goals as goal

pub returns : goal.returns
returns c = undisputed_at_places
