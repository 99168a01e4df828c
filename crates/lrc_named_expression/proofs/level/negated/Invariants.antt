use Rattle.std.proofs.Common.{◌≡◌, length, reverse}
use Rattle.lrc_named_tree.specs.View.{expression_of}
use Rattle.lrc_named_expression.specs.Partial.{negated}
use Rattle.lrc_named_expression.proofs.level.negated.Given as goal

-- the operand behind what is left is the whole
abbrev pub invariant-loop-at : goal.invariant-loop-at
invariant-loop-at l = negated (reverse l.negations.items) (expression_of l.whole) ≡ negated (reverse l.fn.negations.items) (expression_of l.fn.operand)

abbrev pub decreases-loop-at : goal.decreases-loop-at
decreases-loop-at l = length l.negations.items
