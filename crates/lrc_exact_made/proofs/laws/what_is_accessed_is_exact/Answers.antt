use Rattle.lrc_exact_made.proofs.Accessing.{accesses_exactly, reads_exactly, writes_exactly}
use Rattle.lrc_exact_made.proofs.laws.what_is_accessed_is_exact.Goals as goal

pub returns-clause-reads : goal.returns-clause-reads
returns-clause-reads c = λ size made time memory state word h readable. reads_exactly size 0 0 made time memory state h word readable

pub returns-clause-accesses : goal.returns-clause-accesses
returns-clause-accesses c = λ size nodes collect made time memory state page h readable.
    accesses_exactly size nodes collect made time memory state h page readable

pub returns-clause-writes : goal.returns-clause-writes
returns-clause-writes c = λ size nodes collect made time memory state word value h readable whole.
    writes_exactly size nodes collect made time memory state h word value readable whole
