-- There is an index, or none.
use Rattle.std.proofs.Common.{arith}
use Rattle.lrc_named_tree.specs.View.{named_of}
use Rattle.lrc_named_expression_faults.proofs.Inside.{indexed_not, indexed_so}
use Rattle.lrc_named_expression_faults.proofs.expressions.indexed.Goals as goal

pub returns-in-empty : goal.returns-in-empty
returns-in-empty c = indexed_not c.args.indices.now (named_of c.args.name) (omega arith)

pub returns-in-len1-up : goal.returns-in-len1-up
returns-in-len1-up c = indexed_so c.args.indices.now (named_of c.args.name) c.at_token.result c.in-len1-up.len_at_least c.at_token.ensures
