use Rattle.lrc_exact_outcomes.proofs.Running.{by_machine, from_beginning}
use Rattle.lrc_exact_outcomes.proofs.laws.exact_outcomes_are_those_of_the_exact_machine.Goals as goal

pub returns-clause-beginning : goal.returns-clause-beginning
returns-clause-beginning c = from_beginning

pub returns-clause-machine : goal.returns-clause-machine
returns-clause-machine c = by_machine
