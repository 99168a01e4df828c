use Rattle.lrc_lazy.proofs.Renewing.{stands_renewed}
use Rattle.lrc_lazy.proofs.machine_laws.the_machine_stands_there_without_barriers_that_are_gone.Goals as goal

pub returns : goal.returns
returns c = stands_renewed
