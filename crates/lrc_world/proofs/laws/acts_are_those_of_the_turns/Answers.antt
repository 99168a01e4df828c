use Rattle.lrc_world.proofs.ActsInTurn.{acts_turned, turns_acting, turns_of_acts}
use Rattle.lrc_world.proofs.laws.acts_are_those_of_the_turns.Goals as goal

pub returns-clause-acts : goal.returns-clause-acts
returns-clause-acts c = acts_turned

pub returns-clause-each : goal.returns-clause-each
returns-clause-each c = turns_of_acts

pub returns-clause-many : goal.returns-clause-many
returns-clause-many c = turns_acting
