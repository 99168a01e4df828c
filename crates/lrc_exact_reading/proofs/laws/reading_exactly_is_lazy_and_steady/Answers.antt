use Rattle.lrc_exact_reading.proofs.Giving.{reads_lazily, reads_steadily}
use Rattle.lrc_exact_reading.proofs.laws.reading_exactly_is_lazy_and_steady.Goals as goal

pub returns-clause-reads_lazily : goal.returns-clause-reads_lazily
returns-clause-reads_lazily c = reads_lazily

pub returns-clause-reads_steadily : goal.returns-clause-reads_steadily
returns-clause-reads_steadily c = reads_steadily
