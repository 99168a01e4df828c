use Rattle.lrc_world_laws.proofs.OfRounds.{rounds_never_worn}
use Rattle.lrc_world_laws.proofs.OfWandering.{wandering_never_worn}
use Rattle.lrc_world_laws.proofs.laws.runs_that_end_never_wear_out.Goals as goal

pub returns-clause-rounds : goal.returns-clause-rounds
returns-clause-rounds c = rounds_never_worn

pub returns-clause-wandering : goal.returns-clause-wandering
returns-clause-wandering c = wandering_never_worn
