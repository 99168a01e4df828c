use Rattle.lrc_clock.proofs.Counting.{own_entry}
use Rattle.lrc_clock.proofs.laws.own_entry_counts_closes.Goals as goal

pub returns : goal.returns
returns c = λ nodes run times keeps. own_entry keeps
