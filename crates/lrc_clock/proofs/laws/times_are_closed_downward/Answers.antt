use Rattle.lrc_clock.proofs.Stamps.{cut_at, cut_before, cut_stamp}
use Rattle.lrc_clock.proofs.laws.times_are_closed_downward.Goals as goal

pub returns-clause-at : goal.returns-clause-at
returns-clause-at c = λ nodes run times keeps ws. cut_at keeps ws

pub returns-clause-before : goal.returns-clause-before
returns-clause-before c = λ nodes run times keeps ws. cut_before keeps ws

pub returns-clause-stamp : goal.returns-clause-stamp
returns-clause-stamp c = λ nodes run times keeps ws. cut_stamp keeps ws
