use Rattle.std.proofs.Common.{map}
use Rattle.lrc_named_tokens.specs.View.{located_of}
use Rattle.lrc_named_tree.specs.View.{program_of}
use Rattle.lrc_named_linted.proofs.Telling.{name_told}
use Rattle.lrc_named_linted.proofs.linted.lint_names.Goals as goal

pub index_hint-requires-clause-program : goal.index_hint-requires-clause-program
index_hint-requires-clause-program c = (c.requires.parsed.are.tokens, c.requires.parsed.are.parsed)

pub returns : goal.returns
returns c =
    name_told c.args.file.now c.args.text.now (map located_of c.args.tokens.now) (program_of c.args.program) c.args.fault c.in_ok-linted.linted
    c.in_ok-with_line.field-0 c.in_ok-line.line.items c.requires.parsed c.requires.first c.in_ok-linted.ensures.parts c.in_ok-linted.ensures.status
    c.in_ok-line.ensures c.in_ok-with_line.ensures.parts c.in_ok-with_line.ensures.status
