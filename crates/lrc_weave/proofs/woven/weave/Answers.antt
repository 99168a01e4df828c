use Rattle.std.proofs.Common.{◌≡◌, ◌∙◌, Err, ap}
use Rattle.lrc_weave.specs.declared.fault.WeaveFault.TheVariants.{Mismatch}
use Rattle.lrc_weave.proofs.woven.weave.Goals as goal

pub returns-in-Err-clause-mismatch : goal.returns-in-Err-clause-mismatch
returns-in-Err-clause-mismatch c = λ is.
    let same : c.in-Err.fault ≡ Mismatch = cc in
    c.woven_run.ensures.mismatch (c.in-Err.is ∙ ap Err same)
