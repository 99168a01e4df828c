use Rattle.lrc_orders_undisputed.proofs.ToCome.{comes_ahead, held_reached}
use Rattle.lrc_orders_undisputed.proofs.laws.undisputed_acts_lose_nothing.Goals as goal

pub returns : goal.returns
returns c = λ program nodes machine there acts past finding reached ahead.
    comes_ahead ahead (held_reached program nodes machine reached) past finding
