use Rattle.std.proofs.Common.{◌∙◌, [], map}
use Rattle.lrc_program.specs.Statements.{block_of}
use Rattle.lrc_lint_warned.specs.Found.{statement_seen}
use Rattle.lrc_lint_warned.specs.Held.{paths}
use Rattle.lrc_lint_warned.proofs.Under.{acquires_by, ok_same}
use Rattle.lrc_lint_warned.proofs.held.held_already_of.Goals as goal

pub returns : goal.returns
returns c =
    ok_same c.put_acquires.result c.args.out.now.items _ _ _
    (acquires_by c.args.lock _ (paths [] (block_of c.args.block.now)) (c.deref.ensures.value ∙ c.in_ok-under.ensures) (map statement_seen c.args.statements.now))
    c.put_acquires.ensures
