use Rattle.lrc_events.proofs.OneLemmas.{read_back}
use Rattle.lrc_events.proofs.laws.written_events_are_read_as_no_others.Goals as goal

pub returns : goal.returns
returns c = read_back
