use Rattle.lrc_reading_laws.proofs.Traced.Laws.{races_named}
use Rattle.lrc_reading_laws.proofs.traces.races_of_the_traces_are_those_of_the_run.Goals as goal

pub returns : goal.returns
returns c = λ program nodes options events world race e. races_named program nodes options events world e race
