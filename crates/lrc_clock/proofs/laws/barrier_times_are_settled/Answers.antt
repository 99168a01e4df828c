use Rattle.lrc_clock.proofs.Present.{arrived-settled, barrier-own, barriers_rise}
use Rattle.lrc_clock.proofs.laws.barrier_times_are_settled.Goals as goal

pub returns-clause-settled : goal.returns-clause-settled
returns-clause-settled c = λ nodes run times keeps. arrived-settled keeps

pub returns-clause-rise : goal.returns-clause-rise
returns-clause-rise c = λ nodes run times keeps. barriers_rise keeps

pub returns-clause-own : goal.returns-clause-own
returns-clause-own c = λ nodes run times keeps ws waits. barrier-own keeps ws waits
