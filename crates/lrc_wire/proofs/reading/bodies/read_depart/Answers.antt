use Rattle.std.proofs.Common.{refl}
use Rattle.std.proofs.lemmas.Result.{err_from_is_err_and}
use Rattle.lrc_wire.specs.Reading.{depart_at}
use Rattle.lrc_wire.proofs.reading.bodies.read_depart.Goals as goal

pub returns-in_err-episode : goal.returns-in_err-episode
unfolding depart_at
returns-in_err-episode c =
    let p = err_from_is_err_and c.from_residual.result c.from_residual.ensures.1 in
    rw (p.1, p.2) (λ other. rw (c.in_err-episode.ensures.exact other) refl)

pub returns-in_err-collect : goal.returns-in_err-collect
unfolding depart_at
returns-in_err-collect c =
    let p = err_from_is_err_and c.from_residual-in_err-collect.result c.from_residual-in_err-collect.ensures.1 in
    rw (p.1, p.2) (λ other. rw (c.in_ok-episode.ensures.exact, c.in_err-collect.ensures other) refl)

pub returns-in_err-news : goal.returns-in_err-news
unfolding depart_at
returns-in_err-news c =
    let p = err_from_is_err_and c.from_residual-in_err-news.result c.from_residual-in_err-news.ensures.1 in
    rw (p.1, p.2) (λ other. rw (c.in_ok-episode.ensures.exact, c.in_ok-collect.ensures, c.in_err-news.ensures other) refl)

pub returns : goal.returns
unfolding depart_at
returns c = rw (c.in_ok-episode.ensures.exact, c.in_ok-collect.ensures, c.in_ok-news.ensures) refl
