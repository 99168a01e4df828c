-- What the vector knows of the earlier access says whether the later one was reached by way of it.
use Rattle.std.proofs.lemmas.Result.{IfOk-weaker}
use Rattle.lrc_races_witness.proofs.Rivals.{below_of, above_of, is_by_way, are_sure}
use Rattle.lrc_races_witness.proofs.relating.relate_rivals.Goals as goal

pub returns-then-is_below : goal.returns-then-is_below
returns-then-is_below c =
    let below = below_of c.as_slice.result.now c.in_ok-way.way.items c.args.one.thread c.args.one.position c.is_below.result c.is_below.ensures
    c.if-is_below.true c.as_slice.ensures.value in
    IfOk-weaker c.relate_reached.result _ _ (λ relation related a b at at' of conflict.
    related a b at at' of conflict (is_by_way c.args.events.now c.args.one c.args.other c.requires.earlier a b at at' of conflict
    c.in_ok-way.way.items c.in_ok-way.ensures below))
    c.relate_reached.ensures

pub returns : goal.returns
returns c = λ a b at at' of conflict.
    are_sure c.args.events.now c.args.one c.args.other c.requires.earlier a b at at' of conflict c.in_ok-way.way.items c.in_ok-way.ensures
    (above_of c.as_slice.result.now _ _ _ c.is_below.result c.is_below.ensures c.if-is_below.false c.as_slice.ensures.value)
