use Rattle.std.proofs.Common.{refl}
use Rattle.std.proofs.lemmas.Result.{err_from_is_err_and}
use Rattle.lrc_wire.specs.Reading.{lock_forward_at}
use Rattle.lrc_wire.proofs.reading.bodies.read_lock_forward.Goals as goal

pub returns-in_err-lock : goal.returns-in_err-lock
unfolding lock_forward_at
returns-in_err-lock c =
    let p = err_from_is_err_and c.from_residual.result c.from_residual.ensures.1 in
    rw (p.1, p.2) (λ other. rw (c.in_err-lock.ensures.exact other) refl)

pub returns-in_err-asker : goal.returns-in_err-asker
unfolding lock_forward_at
returns-in_err-asker c =
    let p = err_from_is_err_and c.from_residual-in_err-asker.result c.from_residual-in_err-asker.ensures.1 in
    rw (p.1, p.2) (λ other. rw (c.in_ok-lock.ensures.exact, c.in_err-asker.ensures.exact other) refl)

pub returns-in_err-time : goal.returns-in_err-time
unfolding lock_forward_at
returns-in_err-time c =
    let p = err_from_is_err_and c.from_residual-in_err-time.result c.from_residual-in_err-time.ensures.1 in
    rw (p.1, p.2) (λ other. rw (c.in_ok-lock.ensures.exact, c.in_ok-asker.ensures.exact, c.in_err-time.ensures other) refl)

pub returns : goal.returns
unfolding lock_forward_at
returns c = rw (c.in_ok-lock.ensures.exact, c.in_ok-asker.ensures.exact, c.in_ok-time.ensures) refl
