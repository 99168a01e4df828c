use Rattle.lrc_lazy_laws.proofs.Runs.{lazy_run}
use Rattle.lrc_lazy_laws.proofs.laws.runs_are_lazy_runs.Goals as goal

pub returns : goal.returns
returns c = λ program nodes options events world runs. lazy_run program nodes options events world runs
