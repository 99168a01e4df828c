-- The condition, or the `{`.
use Rattle.lrc_named_core.specs.View.{expression_of}
use Rattle.lrc_named_limits.specs.Limits.{IsBlockOver, IsOver}
use Rattle.lrc_named_limits.proofs.First.{joined_at}
use Rattle.lrc_named_limits.proofs.statements.of_head.Goals as goal

pub returns : goal.returns
returns c =
    joined_at c.args.at (λ l. IsOver c.args.privates c.args.depth (expression_of c.args.condition.now) l) (λ l. IsBlockOver c.args.depth l)
    c.of_expression-inside.result c.of_block-behind.result c.earlier.result c.earlier.ensures c.of_expression-inside.ensures c.of_block-behind.ensures
