use Rattle.lrc_named_expression.proofs.Runs.{begins}
use Rattle.lrc_named_expression.proofs.laws.tokens_that_can_stand_begin_an_expression.Goals as goal

pub returns : goal.returns
returns c = λ n tokens y q. begins n tokens y q
