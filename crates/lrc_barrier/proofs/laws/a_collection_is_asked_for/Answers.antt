use Rattle.lrc_barrier.proofs.Told.{asked}
use Rattle.lrc_barrier.proofs.laws.a_collection_is_asked_for.Goals as goal

pub returns : goal.returns
returns c = λ arrivals. asked arrivals
