use Rattle.lrc_events.proofs.OneLemmas.{names_one}
use Rattle.lrc_events.proofs.laws.names_one.Goals as goal

pub returns : goal.returns
returns c = λ lines events others named other. names_one named other
