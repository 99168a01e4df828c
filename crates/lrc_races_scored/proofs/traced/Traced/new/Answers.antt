-- Nothing is kept yet.
use Rattle.lrc_races_scored.proofs.TracedLemmas.{traced_none}
use Rattle.lrc_races_scored.proofs.traced.Traced.new.Goals as goal

pub returns : goal.returns
returns c = λ form. traced_none form c.new.result c.new-2.result.items c.new.ensures c.new-2.ensures.items
