use Rattle.lrc_lint_warned.specs.Blocks.{unchanged_kind}
use Rattle.lrc_lint_warned.proofs.Trees.{ok_of, while_made_of}
use Rattle.lrc_lint_warned.proofs.blocks.unchanged_kind.Goals as goal

pub returns-in-While : goal.returns-in-While
returns-in-While c =
    ok_of c.unchanged_of.result unchanged_kind _ _
    (while_made_of c.args.statement.now c.in-While.condition c.in-While.inside c.deref.result.now c.in-While.is c.deref.ensures.value) c.unchanged_of.ensures
