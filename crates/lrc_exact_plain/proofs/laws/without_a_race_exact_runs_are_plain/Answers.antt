use Rattle.lrc_exec.specs.Follows.{nodes_of_acts}
use Rattle.lrc_exact_plain.proofs.Calm.{exact_from_plain, exact_to_plain}
use Rattle.lrc_exact_plain.proofs.laws.without_a_race_exact_runs_are_plain.Goals as goal

pub returns : goal.returns
returns c = λ program shape none acts.
    (exact_to_plain program shape none acts, exact_from_plain program shape none (nodes_of_acts acts) acts)
