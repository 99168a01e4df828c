use Rattle.std.proofs.Common.{refl}
use Rattle.std.proofs.lemmas.Result.{err_from_is_err_and}
use Rattle.lrc_wire.specs.Reading.{page_reply_at}
use Rattle.lrc_wire.proofs.reading.bodies.read_page_reply.Goals as goal

pub returns-in_err-page : goal.returns-in_err-page
unfolding page_reply_at
returns-in_err-page c =
    let p = err_from_is_err_and c.from_residual.result c.from_residual.ensures.1 in
    rw (p.1, p.2) (λ other. rw (c.in_err-page.ensures.exact other) refl)

pub returns-in_err-copy : goal.returns-in_err-copy
unfolding page_reply_at
returns-in_err-copy c =
    let p = err_from_is_err_and c.from_residual-in_err-copy.result c.from_residual-in_err-copy.ensures.1 in
    rw (p.1, p.2) (λ other. rw (c.in_ok-page.ensures.exact, c.in_err-copy.ensures other) refl)

pub returns : goal.returns
unfolding page_reply_at
returns c = rw (c.in_ok-page.ensures.exact, c.in_ok-copy.ensures) refl
