use Rattle.lrc_copies.proofs.Deciding.{decided}
use Rattle.lrc_copies.proofs.word.fitting_is_decided.Goals as goal

pub returns : goal.returns
returns c = decided
