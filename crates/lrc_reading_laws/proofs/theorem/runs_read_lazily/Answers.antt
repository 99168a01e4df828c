use Rattle.lrc_reading_laws.proofs.Whole.{reads}
use Rattle.lrc_reading_laws.proofs.theorem.runs_read_lazily.Goals as goal

pub returns : goal.returns
returns c = λ program nodes options events world e. reads program nodes options world (record { events = events; runs = e })
