use Rattle.lrc_consistency_laws.proofs.Plainly.{facts}
use Rattle.lrc_consistency_laws.proofs.plain.plain_run_is_well_synchronized.Goals as goal

pub returns : goal.returns
returns c = λ program nodes order run e. let f = facts program nodes order run e in (f.follows, f.synchronized, f.in_order)
