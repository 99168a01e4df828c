use Rattle.std.proofs.Common.{refl}
use Rattle.std.proofs.lemmas.Result.{err_from_is_err_and}
use Rattle.lrc_wire.specs.Reading.{arrive_at}
use Rattle.lrc_wire.proofs.reading.bodies.read_arrive.Goals as goal

pub returns-in_err-episode : goal.returns-in_err-episode
unfolding arrive_at
returns-in_err-episode c =
    let p = err_from_is_err_and c.from_residual.result c.from_residual.ensures.1 in
    rw (p.1, p.2) (λ other. rw (c.in_err-episode.ensures.exact other) refl)

pub returns-in_err-ask : goal.returns-in_err-ask
unfolding arrive_at
returns-in_err-ask c =
    let p = err_from_is_err_and c.from_residual-in_err-ask.result c.from_residual-in_err-ask.ensures.1 in
    rw (p.1, p.2) (λ other. rw (c.in_ok-episode.ensures.exact, c.in_err-ask.ensures other) refl)

pub returns-in_err-news : goal.returns-in_err-news
unfolding arrive_at
returns-in_err-news c =
    let p = err_from_is_err_and c.from_residual-in_err-news.result c.from_residual-in_err-news.ensures.1 in
    rw (p.1, p.2) (λ other. rw (c.in_ok-episode.ensures.exact, c.in_ok-ask.ensures, c.in_err-news.ensures other) refl)

pub returns : goal.returns
unfolding arrive_at
returns c = rw (c.in_ok-episode.ensures.exact, c.in_ok-ask.ensures, c.in_ok-news.ensures) refl
