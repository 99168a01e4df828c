use Rattle.lrc_exact_known.proofs.Highest.{learned_is_highest}
use Rattle.lrc_exact_known.proofs.laws.the_highest_rank_stays.Goals as goal

pub returns : goal.returns
returns c = learned_is_highest
