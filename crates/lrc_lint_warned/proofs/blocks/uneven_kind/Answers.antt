use Rattle.lrc_lint_warned.specs.Blocks.{uneven_kind}
use Rattle.lrc_lint_warned.proofs.Trees.{ok_of, if_made_of}
use Rattle.lrc_lint_warned.proofs.blocks.uneven_kind.Goals as goal

pub returns-in-If : goal.returns-in-If
returns-in-If c =
    ok_of c.uneven_of.result uneven_kind _ _
    (if_made_of c.args.statement.now c.in-If.condition c.in-If.first c.in-If.second _ _ c.in-If.is c.deref.ensures.value c.deref-in-If.ensures.value)
    c.uneven_of.ensures
