use Rattle.lrc_world_laws.proofs.OfRounds.{rounds_determined}
use Rattle.lrc_world_laws.proofs.laws.rounds_are_determined.Goals as goal

pub returns : goal.returns
returns c = rounds_determined
