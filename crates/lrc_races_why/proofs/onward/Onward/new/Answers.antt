use Rattle.lrc_races_why.proofs.Gating.{onward-none}
use Rattle.lrc_races_why.proofs.onward.Onward.new.Goals as goal

pub returns : goal.returns
returns c = λ events to. onward-none events to _ c.new.ensures.items c.new-2.ensures.items c.new-3.ensures.items c.new-4.ensures.items
