use Rattle.std.proofs.Common.{inl}
use Rattle.lrc_named_linted.proofs.Telling.{some_case}
use Rattle.lrc_cli.proofs.LintedLemmas.{none_case}
use Rattle.lrc_cli.proofs.linted.linted_as_named.Goals as goal

pub returns-in-Some : goal.returns-in-Some
returns-in-Some c = inl (some_case _ _ c.in_ok-linted.field-0 c.in-Some.linted c.in-Some.is c.in_ok-linted.ensures)

pub warned-requires : goal.warned-requires
warned-requires c = none_case _ _ c.in_ok-linted.field-0 c.in-None.is c.in_ok-linted.ensures
