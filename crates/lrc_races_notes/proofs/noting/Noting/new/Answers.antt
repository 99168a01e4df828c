-- Nothing is kept, and nothing is to be noted.
use Rattle.lrc_races_notes.proofs.noting.Noting.new.Goals as goal

pub returns : goal.returns
returns g c sought form h = (h, c.new.ensures.none form)
