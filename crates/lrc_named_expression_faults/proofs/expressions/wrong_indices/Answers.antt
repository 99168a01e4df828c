-- The number of indices is wrong, or right.
use Rattle.lrc_named_tree.specs.View.{expressions_of, named_of}
use Rattle.lrc_named_expression_faults.proofs.Inside.{right_first, wrong_first}
use Rattle.lrc_named_expression_faults.proofs.expressions.wrong_indices.Goals as goal

pub returns-in-Some : goal.returns-in-Some
returns-in-Some c = wrong_first (named_of c.args.name) (expressions_of c.args.indices.now) c.args.sizes.now c.in-Some.at c.in-Some.ensures

pub returns-in-None : goal.returns-in-None
returns-in-None c = right_first (named_of c.args.name) (expressions_of c.args.indices.now) c.args.sizes.now c.in-None.ensures
