use Rattle.lrc_orders_undisputed.proofs.ToCome.{held_reached}
use Rattle.lrc_orders_undisputed.proofs.Turning.{comes_without}
use Rattle.lrc_orders_undisputed.proofs.laws.a_node_that_comes_round_can_be_left_alone.Goals as goal

pub returns : goal.returns
returns c = λ program nodes machine node past most finding reached round.
    comes_without machine node past most finding (held_reached program nodes machine reached) round
