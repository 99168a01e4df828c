use Rattle.lrc_exact_worlds.proofs.Theorem.{exact_run, reads_exactly, steadily}
use Rattle.lrc_exact_worlds.proofs.laws.runs_read_exactly.Goals as goal

pub returns-clause-reads : goal.returns-clause-reads
returns-clause-reads c = reads_exactly

pub returns-clause-steadily : goal.returns-clause-steadily
returns-clause-steadily c = steadily

pub returns-clause-runs : goal.returns-clause-runs
returns-clause-runs c = exact_run
