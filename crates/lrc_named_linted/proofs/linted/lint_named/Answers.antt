use Rattle.std.proofs.Common.{inl}
use Rattle.lrc_named_linted.proofs.Telling.{some_case}
use Rattle.lrc_named_linted.proofs.linted.lint_named.Goals as goal

pub returns-in-Some : goal.returns-in-Some
returns-in-Some c =
    let t = some_case _ _ c.in_ok-linted.field-0 c.in-Some.linted c.in-Some.is c.in_ok-linted.ensures in
    (inl t.0, t.1)
