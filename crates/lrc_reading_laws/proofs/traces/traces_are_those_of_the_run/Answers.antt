use Rattle.lrc_reading_laws.proofs.Traced.Laws.{are_of_run, are_traces, epochs_agree, all_rise}
use Rattle.lrc_reading_laws.proofs.traces.traces_are_those_of_the_run.Goals as goal

pub returns-clause-of_run : goal.returns-clause-of_run
returns-clause-of_run c = λ program nodes options events world e. are_of_run program nodes options events world e

pub returns-clause-nodes : goal.returns-clause-nodes
returns-clause-nodes c = λ program nodes options events world e. are_traces program nodes options events world e

pub returns-clause-epochs : goal.returns-clause-epochs
returns-clause-epochs c = λ program nodes options events world e. epochs_agree program nodes options events world e

pub returns-clause-rising : goal.returns-clause-rising
returns-clause-rising c = λ program nodes options events world a e there. all_rise program nodes options events world e a there
