use Rattle.lrc_named_expression.proofs.laws.expressions_have_one_tree.Goals as goal
use Rattle.lrc_named_expression.proofs.Stops.{one_expression}

pub returns : goal.returns
returns c = λ e f all rest other d h d2 g. one_expression e f all rest other d h d2 g
