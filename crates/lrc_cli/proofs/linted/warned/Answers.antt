use Rattle.std.proofs.Common.{inr}
use Rattle.lrc_named_linted.proofs.Telling.{some_case}
use Rattle.lrc_cli.proofs.LintedLemmas.{none_case, sound_has_no_fault}
use Rattle.lrc_cli.proofs.linted.warned.Goals as goal

pub returns : goal.returns
returns c = inr (some_case _ _ c.in_ok-linted.field-0 c.in-Some.linted c.in-Some.is c.in_ok-linted.ensures)

pub unreachable-requires : goal.unreachable-requires
unreachable-requires c = sound_has_no_fault c.args.text.now c.requires (none_case _ _ c.in_ok-linted.field-0 c.in-None.is c.in_ok-linted.ensures)
