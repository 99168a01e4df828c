use Rattle.lrc_races_locations.proofs.Showing.{shown_none}
use Rattle.lrc_races_locations.proofs.locator.Locator.new.Goals as goal

pub returns : goal.returns
returns c = λ sought events. shown_none sought events _ c.new.ensures.items c.new-2.ensures.empty c.new-3.ensures.items
