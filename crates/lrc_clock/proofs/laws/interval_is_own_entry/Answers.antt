use Rattle.lrc_clock.proofs.Counting.{own_stamp}
use Rattle.lrc_clock.proofs.Intervals.{interval_between, interval_of_closing, interval_of_other}
use Rattle.lrc_clock.proofs.laws.interval_is_own_entry.Goals as goal

pub returns-clause-other : goal.returns-clause-other
returns-clause-other c = λ nodes run times keeps. interval_of_other keeps

pub returns-clause-closing : goal.returns-clause-closing
returns-clause-closing c = λ nodes run times keeps. interval_of_closing keeps

pub returns-clause-between : goal.returns-clause-between
returns-clause-between c = λ nodes run times keeps. interval_between keeps

pub returns-clause-stamp : goal.returns-clause-stamp
returns-clause-stamp c = λ nodes run times keeps. own_stamp keeps
