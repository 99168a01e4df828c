use Rattle.lrc_order_laws.proofs.Held.{tokened_at}
use Rattle.lrc_order_laws.proofs.laws.text_holds_what_is_held.Goals as goal

pub returns : goal.returns
returns c = λ program nodes options events world n l e at. (tokened_at program nodes options events world n l e at).holding
