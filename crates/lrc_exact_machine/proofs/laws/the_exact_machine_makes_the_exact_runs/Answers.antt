use Rattle.lrc_exact_machine.proofs.Making.{is_made, makes_exact_run}
use Rattle.lrc_exact_machine.proofs.laws.the_exact_machine_makes_the_exact_runs.Goals as goal

pub returns-clause-sound : goal.returns-clause-sound
returns-clause-sound c = makes_exact_run

pub returns-clause-complete : goal.returns-clause-complete
returns-clause-complete c = is_made
