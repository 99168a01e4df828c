use Rattle.lrc_world_laws.proofs.OfWandering.{wandering_determined}
use Rattle.lrc_world_laws.proofs.laws.wandering_is_determined.Goals as goal

pub returns : goal.returns
returns c = wandering_determined
