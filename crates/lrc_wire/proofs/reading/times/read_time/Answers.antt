use Rattle.std.proofs.Common.{refl}
use Rattle.std.proofs.lemmas.Result.{err_from_is_err_and}
use Rattle.lrc_wire.specs.Reading.{time_at, tested}
use Rattle.lrc_wire.proofs.reading.times.read_time.Goals as goal

pub returns-in_err-nodes : goal.returns-in_err-nodes
unfolding time_at tested
returns-in_err-nodes c =
    let p = err_from_is_err_and c.from_residual.result c.from_residual.ensures.1 in
    rw (p.1, p.2) (λ other. rw (c.in_err-nodes.ensures other) refl)
