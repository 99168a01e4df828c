use Rattle.lrc_races_laws.proofs.Namings.{one_trace}
use Rattle.lrc_races_laws.proofs.told_laws.one_trace_of_what_is_said.Goals as goal

pub returns : goal.returns
returns c = λ said naming others events more a b. one_trace said naming others events more a b
