use Rattle.lrc_trace.proofs.Conflicts.{apart}
use Rattle.lrc_trace.proofs.laws.races_are_between_nodes.Goals as goal

pub returns : goal.returns
returns c = λ run i j p q a b r h k. apart r h k
