use Rattle.lrc_exact_turns.proofs.Dropping.{reached_discards}
use Rattle.lrc_exact_turns.proofs.laws.what_stands_once_it_is_discarded.Goals as goal

pub returns : goal.returns
returns c = reached_discards
