use Rattle.lrc_exact_pages.proofs.Accessing.{accesses_pages, mends_pages, writes_pages}
use Rattle.lrc_exact_pages.proofs.laws.what_is_accessed_stays_exact.Goals as goal

pub returns-clause-accessed : goal.returns-clause-accessed
returns-clause-accessed c = λ size nodes collect made fixed time memory state page h readable.
    accesses_pages size nodes collect made fixed time memory state h page readable

pub returns-clause-written : goal.returns-clause-written
returns-clause-written c = λ size nodes collect made fixed time memory state word value h readable whole.
    writes_pages size nodes collect made fixed time memory state h word value readable whole

pub returns-clause-mended : goal.returns-clause-mended
returns-clause-mended c = λ size nodes collect made fixed time memory state page values h within unwritten whole.
    mends_pages size nodes collect made fixed time memory state h page values within unwritten whole
