use Rattle.std.proofs.Common.{◌≡◌, ◌∙◌, Err, ap}
use Rattle.lrc_weave.specs.declared.fault.WeaveFault.TheVariants.{Mismatch}
use Rattle.lrc_weave.proofs.woven.events_of.Goals as goal

pub returns-in-Err-clause-mismatch : goal.returns-in-Err-clause-mismatch
returns-in-Err-clause-mismatch c = λ is.
    let same : c.in-Err.fault ≡ Mismatch = cc in
    c.run_of_logs.ensures.mismatch (c.in-Err.is ∙ ap Err same)

pub returns-in-Ok-clause-woven : goal.returns-in-Ok-clause-woven
returns-in-Ok-clause-woven c = λ program nodes options are sources.
    let w = c.in-Ok.ensures.woven program nodes options are sources in
    (w.0, w.1)
