use Rattle.lrc_exact_made.proofs.Learning.{learns_exactly}
use Rattle.lrc_exact_made.proofs.laws.what_is_learned_is_exact.Goals as goal

pub returns : goal.returns
returns c = learns_exactly
