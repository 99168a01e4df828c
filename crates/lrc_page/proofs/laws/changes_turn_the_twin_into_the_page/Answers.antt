use Rattle.lrc_page.proofs.ChangeLists.{applied-between}
use Rattle.lrc_page.proofs.laws.changes_turn_the_twin_into_the_page.Goals as goal

pub returns : goal.returns
returns c = applied-between
