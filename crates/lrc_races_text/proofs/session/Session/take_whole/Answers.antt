-- The line is this one.
use Rattle.std.proofs.Common.{refl, ap, ◌++◌}
use Rattle.std.proofs.lemmas.Result.{err_from_is_err_and}
use Rattle.lrc_races_text.proofs.SessionLemmas.{bad_line, completed, ill_line}
use Rattle.lrc_races_text.proofs.session.Session.take_whole.Goals as goal

pub returns-clause-ok : goal.returns-clause-ok
returns-clause-ok c = completed c.args.self.now _ _ _ _ _ _ c.in_ok-number.ensures.ok c.in_ok-take_line.ensures.ok
    (ap (λ r. r ++ c.args.line.now) c.requires) refl refl c.requires refl

pub returns-in_err-take_line-clause-bad : goal.returns-in_err-take_line-clause-bad
returns-in_err-take_line-clause-bad c =
    let p = err_from_is_err_and c.from_residual-in_err-take_line.result c.from_residual-in_err-take_line.ensures.1 in
    rw (p.1, p.2) (bad_line c.args.self.now _ c.args.line.now _ _ c.in_ok-number.ensures.ok c.in_err-take_line.ensures.bad
    (ap (λ r. r ++ c.args.line.now) c.requires))

pub returns-in_err-take_line-clause-ill : goal.returns-in_err-take_line-clause-ill
returns-in_err-take_line-clause-ill c =
    let p = err_from_is_err_and c.from_residual-in_err-take_line.result c.from_residual-in_err-take_line.ensures.1 in
    rw (p.1, p.2) (ill_line c.args.self.now _ c.args.line.now _ _ c.in_ok-number.ensures.ok c.in_err-take_line.ensures.ill
    (ap (λ r. r ++ c.args.line.now) c.requires))
