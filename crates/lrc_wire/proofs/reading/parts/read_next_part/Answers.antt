use Rattle.std.proofs.Common.{refl}
use Rattle.std.proofs.lemmas.Result.{err_from_is_err_and}
use Rattle.lrc_wire.specs.Reading.{next_part_at}
use Rattle.lrc_wire.proofs.reading.parts.read_next_part.Goals as goal

pub returns-in_err-index : goal.returns-in_err-index
unfolding next_part_at
returns-in_err-index c =
    let p = err_from_is_err_and c.from_residual.result c.from_residual.ensures.1 in
    rw (p.1, p.2) (λ other. rw (c.in_err-index.ensures.exact other) refl)

pub returns-in_err-changes : goal.returns-in_err-changes
unfolding next_part_at
returns-in_err-changes c =
    let p = err_from_is_err_and c.from_residual-in_err-changes.result c.from_residual-in_err-changes.ensures.1 in
    rw (p.1, p.2) (λ other. rw (c.in_ok-index.ensures.exact, c.in_err-changes.ensures other) refl)

pub returns : goal.returns
unfolding next_part_at
returns c = rw (c.in_ok-index.ensures.exact, c.in_ok-changes.ensures) refl
