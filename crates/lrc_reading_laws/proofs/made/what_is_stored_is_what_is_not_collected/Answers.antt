use Rattle.lrc_reading_laws.proofs.Closed.Stored.{stores_just}
use Rattle.lrc_reading_laws.proofs.made.what_is_stored_is_what_is_not_collected.Goals as goal

pub returns : goal.returns
returns c = λ program nodes options events world made n l e are at. stores_just program nodes options events world e made are n l at
