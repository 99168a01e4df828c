use Rattle.lrc_judge.proofs.Breaking.{no_break}
use Rattle.lrc_judge.proofs.laws.no_break_is_well_synchronized.Goals as goal

pub returns : goal.returns
returns c = λ nodes run. no_break nodes run
