use Rattle.lrc_exact_asks.proofs.Counts.{asks_so, holds}
use Rattle.lrc_exact_asks.proofs.laws.what_is_held_is_counted.Goals as goal

pub returns-clause-held : goal.returns-clause-held
returns-clause-held c = holds

pub returns-clause-asks : goal.returns-clause-asks
returns-clause-asks c = asks_so
