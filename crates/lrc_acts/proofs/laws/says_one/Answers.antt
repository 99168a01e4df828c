use Rattle.lrc_acts.proofs.OneLemmas.{one}
use Rattle.lrc_acts.proofs.laws.says_one.Goals as goal

pub returns : goal.returns
returns c = λ nodes lines acts others numbers other_numbers said other. one said other
