-- The core is that of the program, and so many private names are its own.
use Rattle.std.proofs.Common.{◌≡◌, ap, ◌∙◌}
use Rattle.lrc_named_tree.specs.View.{block_of, program_of}
use Rattle.lrc_named_names.specs.View.{declared_of}
use Rattle.lrc_named_core.specs.View.{block_of as core_block_of}
use Rattle.lrc_named_written.specs.Privates.{privates}
use Rattle.lrc_named_written.specs.Written.{ComesTo, IsWritten}
use Rattle.lrc_named_written.proofs.Coming.{as_program, if_ok}
use Rattle.lrc_named_written.proofs.written.core_text.Goals as goal

pub returns : goal.returns
returns c =
    let declared = declared_of c.args.names.now in
    let lines = c.args.lines.now in
    let tree = program_of c.args.program.now in
    let count = c.in_ok-count.count in
    let core = c.in_ok-core.core in
    let statements = core_block_of core.statements.items in
    let counted : count ≡ privates declared tree.statements = c.in_ok-count.ensures ∙ ap (λ l. privates declared (block_of l)) c.deref.ensures.value in
    if_ok (ComesTo count core.words core.locks declared lines statements) (IsWritten declared lines tree) c.of_core.result
    (λ w h. as_program count core.words core.locks declared lines tree statements w counted c.in_ok-core.ensures h)
    c.of_core.ensures
