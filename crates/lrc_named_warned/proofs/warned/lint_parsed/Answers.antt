-- By what is found of the names.
use Rattle.std.proofs.Common.{map, subst}
use Rattle.lrc_named_tokens.specs.View.{located_of}
use Rattle.lrc_named_tree.specs.View.{program_of}
use Rattle.lrc_named_check.specs.Program.{AreNamesFound}
use Rattle.lrc_named_warned.proofs.Telling.{names_faulty}
use Rattle.lrc_named_warned.proofs.warned.lint_parsed.Goals as goal

pub returns-in-Bad : goal.returns-in-Bad
returns-in-Bad c =
    names_faulty c.args.text.now (map located_of c.args.tokens.now) (program_of c.args.program.now) _ c.requires
    (subst (AreNamesFound (program_of c.args.program.now)) c.in-Bad.is c.in_ok-found.ensures)

pub lint_clean-requires-clause-clean : goal.lint_clean-requires-clause-clean
lint_clean-requires-clause-clean c = subst (AreNamesFound (program_of c.args.program.now)) c.in-Good.is c.in_ok-found.ensures
