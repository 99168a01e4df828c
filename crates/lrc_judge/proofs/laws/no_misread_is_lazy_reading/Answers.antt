use Rattle.lrc_judge.proofs.Tally.{no_misread}
use Rattle.lrc_judge.proofs.laws.no_misread_is_lazy_reading.Goals as goal

pub returns : goal.returns
returns c = λ run. no_misread run
