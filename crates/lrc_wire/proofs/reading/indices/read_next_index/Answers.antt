use Rattle.std.proofs.Common.{refl}
use Rattle.std.proofs.lemmas.Result.{IfOk-from_err, err_from_is_err_and}
use Rattle.lrc_wire.specs.Reading.{next_index_at, tested}
use Rattle.lrc_wire.proofs.reading.indices.read_next_index.Goals as goal

pub returns-in_err-index-clause-exact : goal.returns-in_err-index-clause-exact
unfolding next_index_at tested
returns-in_err-index-clause-exact c =
    let p = err_from_is_err_and c.from_residual.result c.from_residual.ensures.1 in
    rw (p.1, p.2) (λ other. rw (c.in_err-index.ensures other) refl)

pub returns-in_err-index-clause-begun : goal.returns-in_err-index-clause-begun
returns-in_err-index-clause-begun c = IfOk-from_err c.from_residual.result _ c.from_residual.ensures.0
