use Rattle.lrc_order_laws.proofs.Held.{tokened_at}
use Rattle.lrc_order_laws.proofs.laws.waits_for_one_lock.Goals as goal

pub returns : goal.returns
returns c = λ program nodes options events world n l e at. (tokened_at program nodes options events world n l e at).waits
