use Rattle.lrc_clock.proofs.Present.{open_arrived, open_at, open_before, open_released}
use Rattle.lrc_clock.proofs.laws.open_intervals_are_unknown.Goals as goal

pub returns-clause-at : goal.returns-clause-at
returns-clause-at c = λ nodes run times keeps. open_at keeps

pub returns-clause-node : goal.returns-clause-node
returns-clause-node c = λ nodes run times keeps. open_before keeps

pub returns-clause-lock : goal.returns-clause-lock
returns-clause-lock c = λ nodes run times keeps. open_released keeps

pub returns-clause-barrier : goal.returns-clause-barrier
returns-clause-barrier c = λ nodes run times keeps. open_arrived keeps
