use Rattle.lrc_exact_states.specs.Searched.{IsAmong}
use Rattle.lrc_exact_states.proofs.Keyed.{keyed_closed}
use Rattle.lrc_exact_states.proofs.Searched.{finds_all}
use Rattle.lrc_exact_states.proofs.laws.joining_by_keys_finds_all.Goals as goal

pub returns : goal.returns
returns c = λ program shape cap looked calm some search notes.
    finds_all program shape cap calm (IsAmong looked) (keyed_closed program shape calm cap some (IsAmong looked) search) some notes
