use Rattle.lrc_exact_outcomes.proofs.Running.{goes_on, over_where}
use Rattle.lrc_exact_outcomes.proofs.laws.an_exact_run_goes_on_where_a_node_can_act.Goals as goal

pub returns-clause-goes_on : goal.returns-clause-goes_on
returns-clause-goes_on c = goes_on

pub returns-clause-over : goal.returns-clause-over
returns-clause-over c = over_where
