use Rattle.lrc_lazy.proofs.Stepping.{can_make, run_made}
use Rattle.lrc_lazy.proofs.machine_laws.a_lazy_run_goes_on_with_what_the_machine_can_make.Goals as goal

pub returns : goal.returns
returns c = λ program nodes acts machine knowledge s node deed.
    (can_make program nodes acts machine knowledge s node deed, run_made program nodes acts machine knowledge s node deed)
