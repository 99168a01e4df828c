-- By what the core comes to.
use Rattle.std.proofs.Common.{map, subst, ◌∙◌}
use Rattle.lrc_named_tokens.specs.View.{located_of}
use Rattle.lrc_named_tree.specs.View.{program_of}
use Rattle.lrc_named_names.specs.View.{declared_of}
use Rattle.lrc_named_written.specs.Written.{IsWritten}
use Rattle.lrc_named_linted.proofs.Telling.{by_both, core_told}
use Rattle.lrc_named_linted.proofs.linted.lint_core.Goals as goal

pub returns : goal.returns
returns c =
    let tokens = map located_of c.args.tokens.now in
    let tree = program_of c.args.program.now in
    let layout = c.args.layout.now in
    let found = c.in_ok-written.written in
    let is = subst (λ lines. IsWritten (declared_of layout.names) lines tree found) (c.deref.ensures.value ∙ c.in_ok-lines.ensures) c.in_ok-written.ensures in
    by_both c.lint_core_fault.result
    (λ told said faulty. core_told c.args.file.now c.args.text.now tokens tree layout found told c.requires.parsed c.requires.clean is said faulty)
    c.lint_core_fault.ensures.told c.lint_core_fault.ensures.status
