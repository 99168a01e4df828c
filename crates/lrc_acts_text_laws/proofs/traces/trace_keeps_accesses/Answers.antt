use Rattle.lrc_acts_text_laws.proofs.WellFormed.{keeps_accesses}
use Rattle.lrc_acts_text_laws.proofs.traces.trace_keeps_accesses.Goals as goal

pub returns : goal.returns
returns c = keeps_accesses
