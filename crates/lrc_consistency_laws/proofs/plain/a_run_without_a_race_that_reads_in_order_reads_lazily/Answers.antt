use Rattle.lrc_consistency_laws.proofs.InOrder.{lazily_without_race}
use Rattle.lrc_consistency_laws.proofs.plain.a_run_without_a_race_that_reads_in_order_reads_lazily.Goals as goal

pub returns : goal.returns
returns c = lazily_without_race
