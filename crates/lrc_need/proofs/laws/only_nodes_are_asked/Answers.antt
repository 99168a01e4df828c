use Rattle.lrc_need.proofs.Asking.{asked-below}
use Rattle.lrc_need.proofs.laws.only_nodes_are_asked.Goals as goal

pub returns : goal.returns
returns c = asked-below
