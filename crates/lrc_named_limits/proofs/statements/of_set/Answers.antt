-- The name, or the value.
use Rattle.lrc_named_core.specs.View.{expression_of, private_of}
use Rattle.lrc_named_limits.specs.Limits.{IsNameOver, IsOver}
use Rattle.lrc_named_limits.proofs.First.{joined_at}
use Rattle.lrc_named_limits.proofs.statements.of_set.Goals as goal

pub returns : goal.returns
returns c =
    joined_at c.args.at (λ l. IsNameOver c.args.privates (private_of c.args.name) l) (λ l. IsOver c.args.privates c.args.depth (expression_of c.args.value.now) l)
    c.of_name-own.result c.of_expression-inside.result c.earlier.result c.earlier.ensures c.of_name-own.ensures c.of_expression-inside.ensures
