-- What the vector knows of the earlier access says whether it happens before the later one.
use Rattle.lrc_races_witness.proofs.Rivals.{below_of, above_of, are_ordered, are_reached}
use Rattle.lrc_races_witness.proofs.relating.relate_reached.Goals as goal

pub returns-then-is_below : goal.returns-then-is_below
returns-then-is_below c = λ a b at at' of conflict way.
    are_ordered c.args.events.now c.args.one c.args.other c.requires.earlier a b at at' of conflict c.in_ok-past.past.items c.in_ok-past.ensures
    (below_of c.as_slice.result.now _ _ _ c.is_below.result c.is_below.ensures c.if-is_below.true c.as_slice.ensures.value)

pub returns : goal.returns
returns c = λ a b at at' of conflict way.
    are_reached c.args.events.now c.args.one c.args.other c.requires.earlier a b at at' of conflict c.in_ok-past.past.items c.in_ok-past.ensures
    (above_of c.as_slice.result.now _ _ _ c.is_below.result c.is_below.ensures c.if-is_below.false c.as_slice.ensures.value) way
