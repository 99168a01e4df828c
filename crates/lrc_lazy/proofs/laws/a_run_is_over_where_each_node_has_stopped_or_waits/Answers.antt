use Rattle.lrc_lazy.proofs.Stopping.{stopped_over}
use Rattle.lrc_lazy.proofs.laws.a_run_is_over_where_each_node_has_stopped_or_waits.Goals as goal

pub returns : goal.returns
returns c = λ program nodes acts all. stopped_over program nodes acts all
