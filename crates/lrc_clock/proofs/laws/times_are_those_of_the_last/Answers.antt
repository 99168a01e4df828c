use Rattle.lrc_clock.proofs.Present.{before-is, before-none, released-is, released-none}
use Rattle.lrc_clock.proofs.laws.times_are_those_of_the_last.Goals as goal

pub returns-clause-before : goal.returns-clause-before
returns-clause-before c = before-is

pub returns-clause-zeros : goal.returns-clause-zeros
returns-clause-zeros c = before-none

pub returns-clause-released : goal.returns-clause-released
returns-clause-released c = released-is

pub returns-clause-released_zeros : goal.returns-clause-released_zeros
returns-clause-released_zeros c = released-none
