use Rattle.lrc_lazy_laws.proofs.Runs.{lazy_outcome}
use Rattle.lrc_lazy_laws.proofs.laws.runs_after_which_no_node_can_act_have_a_lazy_outcome.Goals as goal

pub returns : goal.returns
returns c = λ program nodes options events world runs over. lazy_outcome program nodes options events world runs over
