use Rattle.std.proofs.Common.{◌∙◌, [], map}
use Rattle.lrc_program.specs.Statements.{block_of}
use Rattle.lrc_lint_warned.specs.Found.{statement_seen}
use Rattle.lrc_lint_warned.specs.Held.{paths}
use Rattle.lrc_lint_warned.proofs.Under.{releases_by, ok_same}
use Rattle.lrc_lint_warned.proofs.held.not_held_of.Goals as goal

pub returns : goal.returns
returns c =
    ok_same c.put_releases.result c.args.out.now.items _ _ _
    (releases_by c.args.lock _ (paths [] (block_of c.args.block.now)) (c.deref.ensures.value ∙ c.in_ok-under.ensures) (map statement_seen c.args.statements.now))
    c.put_releases.ensures
