use Rattle.lrc_clock.proofs.Epochs.{same_before, stamp_of_interval}
use Rattle.lrc_clock.proofs.Racing.{segment_time}
use Rattle.lrc_clock.proofs.laws.time_stands_still_within_an_interval.Goals as goal

pub returns-clause-time : goal.returns-clause-time
returns-clause-time c = λ nodes run times keeps ws waits. same_before ws waits keeps

pub returns-clause-stamp : goal.returns-clause-stamp
returns-clause-stamp c = λ nodes run times keeps ws waits. stamp_of_interval ws waits keeps

pub returns-clause-segment : goal.returns-clause-segment
returns-clause-segment c = λ nodes run times keeps ws waits. segment_time keeps ws waits
