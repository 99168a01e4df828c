use Rattle.std.proofs.lemmas.Bool.{iff_false}
use Rattle.lrc_cli.proofs.LintedLemmas.{core_told, named_told}
use Rattle.lrc_cli.proofs.linted.linted_as_read.Goals as goal

pub returns-then-branch : goal.returns-then-branch
returns-then-branch c =
    named_told c.args.file.now c.args.text.now c.linted_as_named.result (c.in_ok-is_read_as_named.ensures.0 c.if-branch.true) c.linted_as_named.ensures

pub returns-else-branch : goal.returns-else-branch
returns-else-branch c =
    core_told c.args.file.now c.args.text.now c.lint.result (iff_false c.in_ok-is_read_as_named.ensures c.if-branch.false) c.lint.ensures
