use Rattle.lrc_lazy.proofs.Beginning.{stands_first}
use Rattle.lrc_lazy.proofs.machine_laws.the_machine_begins_with_the_program.Goals as goal

pub returns : goal.returns
returns c = stands_first
