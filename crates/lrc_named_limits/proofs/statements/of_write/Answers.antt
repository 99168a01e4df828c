-- The word, or the value.
use Rattle.lrc_named_core.specs.View.{expression_of}
use Rattle.lrc_named_limits.specs.Limits.{IsOver}
use Rattle.lrc_named_limits.proofs.First.{joined_at}
use Rattle.lrc_named_limits.proofs.statements.of_write.Goals as goal

pub returns : goal.returns
returns c =
    joined_at c.args.at (λ l. IsOver c.args.privates c.args.depth (expression_of c.args.word.now) l)
    (λ l. IsOver c.args.privates c.args.depth (expression_of c.args.value.now) l)
    c.of_expression-one.result c.of_expression-other.result c.earlier.result c.earlier.ensures c.of_expression-one.ensures c.of_expression-other.ensures
