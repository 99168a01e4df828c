use Rattle.lrc_orders.proofs.Noting.{notes_more}
use Rattle.lrc_orders.proofs.laws.notes_of_one_act_more.Goals as goal

pub returns : goal.returns
returns c = notes_more
