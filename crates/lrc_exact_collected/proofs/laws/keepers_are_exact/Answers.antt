use Rattle.lrc_exact_collected.proofs.Keepers.{keepers_exact}
use Rattle.lrc_exact_collected.proofs.laws.keepers_are_exact.Goals as goal

pub returns : goal.returns
returns c = keepers_exact
