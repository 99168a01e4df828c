use Rattle.std.proofs.Common.{refl}
use Rattle.std.proofs.lemmas.Result.{err_from_is_err_and}
use Rattle.lrc_wire.specs.Reading.{header_at, tested}
use Rattle.lrc_wire.proofs.reading.header.read_header.Goals as goal

pub returns-in_err-version : goal.returns-in_err-version
unfolding header_at tested
returns-in_err-version c =
    let p = err_from_is_err_and c.from_residual.result c.from_residual.ensures.1 in
    rw (p.1, p.2) (λ other. rw (c.in_err-version.ensures other) refl)

pub returns-in_err-kind : goal.returns-in_err-kind
unfolding header_at tested
returns-in_err-kind c =
    let p = err_from_is_err_and c.from_residual-in_err-kind.result c.from_residual-in_err-kind.ensures.1 in
    rw (p.1, p.2) (λ other. rw (c.in_ok-version.ensures, c.in_err-kind.ensures other) refl)

pub returns-in_err-from : goal.returns-in_err-from
unfolding header_at tested
returns-in_err-from c =
    let p = err_from_is_err_and c.from_residual-in_err-from.result c.from_residual-in_err-from.ensures.1 in
    rw (p.1, p.2) (λ other. rw (c.in_ok-version.ensures, c.in_ok-kind.ensures, c.in_err-from.ensures.exact other) refl)

pub returns-in_err-to : goal.returns-in_err-to
unfolding header_at tested
returns-in_err-to c =
    let p = err_from_is_err_and c.from_residual-in_err-to.result c.from_residual-in_err-to.ensures.1 in
    rw (p.1, p.2) (λ other. rw (c.in_ok-version.ensures, c.in_ok-kind.ensures, c.in_ok-from.ensures.exact, c.in_err-to.ensures.exact other) refl)

pub returns-in_err-number : goal.returns-in_err-number
unfolding header_at tested
returns-in_err-number c =
    let p = err_from_is_err_and c.from_residual-in_err-number.result c.from_residual-in_err-number.ensures.1 in
    rw (p.1, p.2) (λ other. rw (c.in_ok-version.ensures, c.in_ok-kind.ensures, c.in_ok-from.ensures.exact, c.in_ok-to.ensures.exact, c.in_err-number.ensures other) refl)

pub returns-in_err-body_len : goal.returns-in_err-body_len
unfolding header_at tested
returns-in_err-body_len c =
    let p = err_from_is_err_and c.from_residual-in_err-body_len.result c.from_residual-in_err-body_len.ensures.1 in
    rw (p.1, p.2) (λ other. rw (c.in_ok-version.ensures, c.in_ok-kind.ensures, c.in_ok-from.ensures.exact, c.in_ok-to.ensures.exact, c.in_ok-number.ensures, c.in_err-body_len.ensures other) refl)
