use Rattle.lrc_consistency_laws.proofs.Plainly.{facts}
use Rattle.lrc_consistency_laws.proofs.InOrder.{lazily_without_race}
use Rattle.lrc_consistency_laws.proofs.plain.a_plain_run_without_a_race_reads_lazily.Goals as goal

pub returns : goal.returns
returns c = λ program nodes order run e free. lazily_without_race run free (facts program nodes order run e).in_order
