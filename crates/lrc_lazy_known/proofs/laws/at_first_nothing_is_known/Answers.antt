use Rattle.lrc_lazy_known.proofs.Beginning.{nothing_known}
use Rattle.lrc_lazy_known.proofs.laws.at_first_nothing_is_known.Goals as goal

pub returns : goal.returns
returns c = nothing_known
