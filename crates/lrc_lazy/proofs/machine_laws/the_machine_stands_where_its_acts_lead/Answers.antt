use Rattle.lrc_lazy.proofs.Stepping.{stands_on}
use Rattle.lrc_lazy.proofs.machine_laws.the_machine_stands_where_its_acts_lead.Goals as goal

pub returns : goal.returns
returns c = stands_on
