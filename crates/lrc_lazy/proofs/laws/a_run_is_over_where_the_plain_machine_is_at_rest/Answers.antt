use Rattle.lrc_lazy.proofs.Resting.{over_to_rest, rest_to_over}
use Rattle.lrc_lazy.proofs.laws.a_run_is_over_where_the_plain_machine_is_at_rest.Goals as goal

pub returns : goal.returns
returns c = λ program nodes order acts machine is. (over_to_rest program nodes order acts machine is, rest_to_over program nodes order acts machine is)
