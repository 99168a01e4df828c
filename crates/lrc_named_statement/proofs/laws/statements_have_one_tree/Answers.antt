use Rattle.lrc_named_statement.proofs.One.{one_tree}
use Rattle.lrc_named_statement.proofs.laws.statements_have_one_tree.Goals as goal

pub returns : goal.returns
returns c = one_tree
