-- The number of arguments is wrong, or right.
use Rattle.lrc_named_tree.specs.View.{expressions_of}
use Rattle.lrc_named_expression_faults.proofs.Inside.{right_call_first, wrong_call_first}
use Rattle.lrc_named_expression_faults.proofs.expressions.wrong_arguments.Goals as goal

pub returns-in-Some : goal.returns-in-Some
returns-in-Some c = wrong_call_first (expressions_of c.args.arguments.now) c.args.close c.args.wanted c.in-Some.at c.in-Some.ensures

pub returns-in-None : goal.returns-in-None
returns-in-None c = right_call_first (expressions_of c.args.arguments.now) c.args.close c.args.wanted c.in-None.ensures
