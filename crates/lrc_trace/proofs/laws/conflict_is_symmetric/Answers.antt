use Rattle.lrc_trace.proofs.Conflicts.{symmetric}
use Rattle.lrc_trace.proofs.laws.conflict_is_symmetric.Goals as goal

pub returns : goal.returns
returns c = λ run i j h. symmetric h
