use Rattle.std.proofs.Common.{refl}
use Rattle.std.proofs.lemmas.Result.{IfOk-from_err, err_from_is_err_and}
use Rattle.lrc_wire.specs.Reading.{next_page_at, tested}
use Rattle.lrc_wire.proofs.reading.intervals.read_next_page.Goals as goal

pub returns-in_err-page-clause-exact : goal.returns-in_err-page-clause-exact
unfolding next_page_at tested
returns-in_err-page-clause-exact c =
    let p = err_from_is_err_and c.from_residual.result c.from_residual.ensures.1 in
    rw (p.1, p.2) (λ other. rw (c.in_err-page.ensures.exact other) refl)

pub returns-in_err-page-clause-in_range : goal.returns-in_err-page-clause-in_range
returns-in_err-page-clause-in_range c = IfOk-from_err c.from_residual.result _ c.from_residual.ensures.0

pub returns-in_err-page-clause-above : goal.returns-in_err-page-clause-above
returns-in_err-page-clause-above c = IfOk-from_err c.from_residual.result _ c.from_residual.ensures.0
