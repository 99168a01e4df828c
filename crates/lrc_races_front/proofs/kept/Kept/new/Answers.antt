-- Nothing is kept yet.
use Rattle.lrc_races_front.proofs.KeptLemmas.{kept_none}
use Rattle.lrc_races_front.proofs.kept.Kept.new.Goals as goal

pub returns : goal.returns
returns c = λ form. kept_none form c.new.result c.new-2.result.items c.new-3.result.items c.new.ensures c.new-2.ensures.items c.new-3.ensures.items
