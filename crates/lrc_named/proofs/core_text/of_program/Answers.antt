-- By what is found of the names.
use Rattle.std.proofs.Common.{map, subst, ◌∙◌}
use Rattle.lrc_named_tokens.specs.View.{located_of}
use Rattle.lrc_named_tree.specs.View.{program_of}
use Rattle.lrc_named_check.specs.Program.{AreNamesFound}
use Rattle.lrc_named.proofs.Answering.{name_fault}
use Rattle.lrc_named.proofs.core_text.of_program.Goals as goal

pub returns-in-Bad-clause-fault : goal.returns-in-Bad-clause-fault
returns-in-Bad-clause-fault c =
    let tree = program_of c.args.program.now in
    name_fault c.args.text.now (map located_of c.args.tokens.now) tree c.in-Bad.fault c.deref.result.now c.line_of.result c.requires
    (c.deref.ensures.value ∙ c.in_ok-lines.ensures) c.line_of.ensures (subst (AreNamesFound tree) c.in-Bad.is c.in_ok-found.ensures)

pub of_names-requires-clause-clean : goal.of_names-requires-clause-clean
of_names-requires-clause-clean c = subst (AreNamesFound (program_of c.args.program.now)) c.in-Good.is c.in_ok-found.ensures

pub of_names-requires-clause-tokens : goal.of_names-requires-clause-tokens
of_names-requires-clause-tokens c = (
  map located_of c.args.tokens.now,
  c.requires,
  c.deref-in-Good.ensures.value ∙ c.in_ok-lines.ensures,
  c.deref-in-Good-2.ensures.value ∙ c.in_ok-offsets-in-Good.ensures,
)
