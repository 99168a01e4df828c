use Rattle.lrc_exact_made.proofs.Accessing.{mends_exactly}
use Rattle.lrc_exact_made.proofs.Repairing.{repairs_exactly}
use Rattle.lrc_exact_made.proofs.laws.what_is_repaired_is_exact.Goals as goal

pub returns-clause-words : goal.returns-clause-words
returns-clause-words c = λ made page collected since time store values offset word k lt f.
    repairs_exactly made page collected since time store k values offset word lt f

pub returns-clause-node : goal.returns-clause-node
returns-clause-node c = λ size nodes collect made time memory state page values h within unwritten whole.
    mends_exactly size nodes collect made time memory state h page values within unwritten whole
