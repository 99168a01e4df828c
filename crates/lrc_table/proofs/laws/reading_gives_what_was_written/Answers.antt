use Rattle.lrc_table.proofs.Copies.{written-read, others-read}
use Rattle.lrc_table.proofs.laws.reading_gives_what_was_written.Goals as goal

pub returns-clause-written : goal.returns-clause-written
returns-clause-written c = written-read

pub returns-clause-others : goal.returns-clause-others
returns-clause-others c = others-read
