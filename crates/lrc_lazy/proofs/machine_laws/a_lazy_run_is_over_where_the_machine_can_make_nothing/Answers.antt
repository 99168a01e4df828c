use Rattle.lrc_lazy.proofs.Stepping.{none_there, over_there}
use Rattle.lrc_lazy.proofs.machine_laws.a_lazy_run_is_over_where_the_machine_can_make_nothing.Goals as goal

pub returns : goal.returns
returns c = λ program nodes acts machine knowledge s.
    (none_there program nodes acts machine knowledge s, over_there program nodes acts machine knowledge s)
