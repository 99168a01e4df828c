use Rattle.lrc_exact_states.specs.Searched.{IsAmong}
use Rattle.lrc_exact_states.proofs.Searched.{finds_all}
use Rattle.lrc_exact_states.proofs.laws.joining_finds_all.Goals as goal

pub returns : goal.returns
returns c = λ program shape cap looked calm some closed notes. finds_all program shape cap calm (IsAmong looked) closed some notes
