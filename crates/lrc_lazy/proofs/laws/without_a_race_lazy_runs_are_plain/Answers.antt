use Rattle.lrc_exec.specs.Follows.{nodes_of_acts}
use Rattle.lrc_lazy.proofs.Plainly.{to_plain, from_plain}
use Rattle.lrc_lazy.proofs.laws.without_a_race_lazy_runs_are_plain.Goals as goal

pub returns : goal.returns
returns c = λ program nodes none acts. (to_plain program nodes none acts, from_plain program nodes none (nodes_of_acts acts) acts)
