use Rattle.lrc_order_laws.proofs.OwnEntry.{own_entry}
use Rattle.lrc_order_laws.proofs.laws.own_entry_counts_closes.Goals as goal

pub returns : goal.returns
returns c = λ program nodes options events world n l e at. own_entry program nodes options events world e n l at
