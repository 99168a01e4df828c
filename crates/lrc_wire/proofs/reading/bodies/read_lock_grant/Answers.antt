use Rattle.std.proofs.Common.{refl}
use Rattle.std.proofs.lemmas.Result.{err_from_is_err_and}
use Rattle.lrc_wire.specs.Reading.{lock_grant_at}
use Rattle.lrc_wire.proofs.reading.bodies.read_lock_grant.Goals as goal

pub returns-in_err-lock : goal.returns-in_err-lock
unfolding lock_grant_at
returns-in_err-lock c =
    let p = err_from_is_err_and c.from_residual.result c.from_residual.ensures.1 in
    rw (p.1, p.2) (λ other. rw (c.in_err-lock.ensures.exact other) refl)

pub returns-in_err-news : goal.returns-in_err-news
unfolding lock_grant_at
returns-in_err-news c =
    let p = err_from_is_err_and c.from_residual-in_err-news.result c.from_residual-in_err-news.ensures.1 in
    rw (p.1, p.2) (λ other. rw (c.in_ok-lock.ensures.exact, c.in_err-news.ensures other) refl)

pub returns : goal.returns
unfolding lock_grant_at
returns c = rw (c.in_ok-lock.ensures.exact, c.in_ok-news.ensures) refl
