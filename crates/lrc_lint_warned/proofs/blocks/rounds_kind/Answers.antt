use Rattle.lrc_lint_warned.specs.Blocks.{rounds_kind}
use Rattle.lrc_lint_warned.proofs.Trees.{ok_of, while_made_of}
use Rattle.lrc_lint_warned.proofs.blocks.rounds_kind.Goals as goal

pub returns-in-While : goal.returns-in-While
returns-in-While c =
    ok_of c.rounds_of.result rounds_kind _ _
    (while_made_of c.args.statement.now c.in-While.condition c.in-While.inside c.deref.result.now c.in-While.is c.deref.ensures.value) c.rounds_of.ensures
