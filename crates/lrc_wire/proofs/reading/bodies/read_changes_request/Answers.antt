use Rattle.std.proofs.Common.{refl}
use Rattle.std.proofs.lemmas.Result.{err_from_is_err_and}
use Rattle.lrc_wire.specs.Reading.{changes_request_at}
use Rattle.lrc_wire.proofs.reading.bodies.read_changes_request.Goals as goal

pub returns-in_err-page : goal.returns-in_err-page
unfolding changes_request_at
returns-in_err-page c =
    let p = err_from_is_err_and c.from_residual.result c.from_residual.ensures.1 in
    rw (p.1, p.2) (λ other. rw (c.in_err-page.ensures.exact other) refl)

pub returns-in_err-indices : goal.returns-in_err-indices
unfolding changes_request_at
returns-in_err-indices c =
    let p = err_from_is_err_and c.from_residual-in_err-indices.result c.from_residual-in_err-indices.ensures.1 in
    rw (p.1, p.2) (λ other. rw (c.in_ok-page.ensures.exact, c.in_err-indices.ensures.exact other) refl)

pub returns : goal.returns
unfolding changes_request_at
returns c = rw (c.in_ok-page.ensures.exact, c.in_ok-indices.ensures.exact) refl
