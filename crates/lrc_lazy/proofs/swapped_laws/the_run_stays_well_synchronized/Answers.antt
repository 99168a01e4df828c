use Rattle.lrc_lazy.proofs.Synchronized.{synchronized_then}
use Rattle.lrc_lazy.proofs.swapped_laws.the_run_stays_well_synchronized.Goals as goal

pub returns : goal.returns
returns c = synchronized_then
