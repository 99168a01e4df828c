use Rattle.lrc_orders_undisputed.proofs.ToCome.{comes_behind, comes_before, held_reached}
use Rattle.lrc_orders_undisputed.proofs.laws.an_undisputed_act_loses_nothing.Goals as goal

pub returns-clause-forth : goal.returns-clause-forth
returns-clause-forth c = λ program nodes machine after node deed past finding reached u.
    comes_behind machine after node deed past finding (held_reached program nodes machine reached) u

pub returns-clause-back : goal.returns-clause-back
returns-clause-back c = comes_before
