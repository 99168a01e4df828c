use Rattle.lrc_acts_text_laws.proofs.WellFormed.{well_formed}
use Rattle.lrc_acts_text_laws.proofs.traces.trace_of_synchronized_acts_is_well_formed.Goals as goal

pub returns : goal.returns
returns c = well_formed
