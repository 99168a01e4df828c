use Rattle.std.proofs.Common.{refl}
use Rattle.std.proofs.lemmas.Result.{IfOk-from_err, err_from_is_err_and}
use Rattle.lrc_wire.specs.Reading.{next_change_at}
use Rattle.lrc_wire.proofs.reading.changes.read_next_change.Goals as goal

pub returns-in_err-offset-clause-exact : goal.returns-in_err-offset-clause-exact
unfolding next_change_at
returns-in_err-offset-clause-exact c =
    let p = err_from_is_err_and c.from_residual.result c.from_residual.ensures.1 in
    rw (p.1, p.2) (λ other. rw (c.in_err-offset.ensures.exact other) refl)

pub returns-in_err-offset-clause-above : goal.returns-in_err-offset-clause-above
returns-in_err-offset-clause-above c = IfOk-from_err c.from_residual.result _ c.from_residual.ensures.0

pub returns-in_err-value-clause-exact : goal.returns-in_err-value-clause-exact
unfolding next_change_at
returns-in_err-value-clause-exact c =
    let p = err_from_is_err_and c.from_residual-in_err-value.result c.from_residual-in_err-value.ensures.1 in
    rw (p.1, p.2) (λ other. rw (c.in_ok-offset.ensures.exact, c.in_err-value.ensures other) refl)

pub returns-in_err-value-clause-above : goal.returns-in_err-value-clause-above
returns-in_err-value-clause-above c = IfOk-from_err c.from_residual-in_err-value.result _ c.from_residual-in_err-value.ensures.0

pub returns-clause-exact : goal.returns-clause-exact
unfolding next_change_at
returns-clause-exact c = rw (c.in_ok-offset.ensures.exact, c.in_ok-value.ensures) refl
