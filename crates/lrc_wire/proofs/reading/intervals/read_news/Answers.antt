use Rattle.std.proofs.Common.{refl}
use Rattle.std.proofs.lemmas.Result.{err_from_is_err_and}
use Rattle.lrc_wire.specs.Reading.{news_at}
use Rattle.lrc_wire.proofs.reading.intervals.read_news.Goals as goal

pub returns-in_err-time : goal.returns-in_err-time
unfolding news_at
returns-in_err-time c =
    let p = err_from_is_err_and c.from_residual.result c.from_residual.ensures.1 in
    rw (p.1, p.2) (λ other. rw (c.in_err-time.ensures other) refl)
