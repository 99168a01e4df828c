use Rattle.lrc_orders_disputes.proofs.Following.{undisputed}
use Rattle.lrc_orders_disputes.proofs.laws.acts_that_no_text_comes_to_dispute_are_undisputed.Goals as goal

pub returns : goal.returns
returns c = undisputed
