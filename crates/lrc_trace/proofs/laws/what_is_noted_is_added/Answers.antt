use Rattle.lrc_trace.proofs.Noted.{added-to, added-from}
use Rattle.lrc_trace.proofs.laws.what_is_noted_is_added.Goals as goal

pub returns : goal.returns
returns c = λ trace epoch interval time word is_write are may access.
    (added-to trace epoch interval time word is_write are may access, added-from trace epoch interval time word is_write are may access)
