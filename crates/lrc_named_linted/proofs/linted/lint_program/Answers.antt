-- By what is found of the names.
use Rattle.std.proofs.Common.{subst}
use Rattle.lrc_named_tree.specs.View.{program_of}
use Rattle.lrc_named_check.specs.Program.{AreNamesFound}
use Rattle.lrc_named_linted.proofs.linted.lint_program.Goals as goal

pub lint_names-requires-clause-first : goal.lint_names-requires-clause-first
lint_names-requires-clause-first c = subst (AreNamesFound (program_of c.args.program)) c.in-Bad.is c.in_ok-fault.ensures

pub lint_core-requires-clause-clean : goal.lint_core-requires-clause-clean
lint_core-requires-clause-clean c = subst (AreNamesFound (program_of c.args.program)) c.in-Good.is c.in_ok-fault.ensures
