-- Nothing has come.
use Rattle.lrc_races_locations.proofs.Locating.{located_none}
use Rattle.lrc_races_locations.proofs.located.Located.new.Goals as goal

pub returns : goal.returns
returns c = λ form. located_none c.args.sought form _ c.new.ensures c.new-2.ensures c.new-3.ensures
