use Rattle.lrc_events.proofs.Written.{written}
use Rattle.lrc_events.proofs.laws.written_events_are_read.Goals as goal

pub returns : goal.returns
returns c = λ events small short. (short, written events small)
