-- Both orders are looked for.
use Rattle.lrc_races_missed.proofs.Testing.{neither_is, one_is}
use Rattle.lrc_races_missed.proofs.pairs.is_unclaimed.Goals as goal

pub returns-then-is_among : goal.returns-then-is_among
returns-then-is_among c = one_is c.is_among.result c.if-is_among.true c.is_among.ensures

pub returns : goal.returns
returns c = neither_is c.is_among.result c.is_among-2.result c.if-is_among.false c.is_among.ensures c.is_among-2.ensures
