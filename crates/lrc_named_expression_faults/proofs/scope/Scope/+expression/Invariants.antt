-- How far an expression still has to be gone into, and the first fault of the indices that the loop has passed.
use Rattle.std.proofs.Common.{drop}
use Rattle.lrc_named_tree.specs.View.{expression_of, expressions_of}
use Rattle.lrc_named_constants.proofs.Measure.{size, sizes}
use Rattle.lrc_named_expression_faults.specs.Expressions.{IsInIndices}
use Rattle.lrc_named_expression_faults.specs.Fault.{IsFirstOf}
use Rattle.lrc_named_expression_faults.specs.View.{scope_of}
use Rattle.lrc_named_expression_faults.proofs.scope.Scope.+expression.Given as goal

abbrev pub invariant-indices-loop-i : goal.invariant-indices-loop-i
invariant-indices-loop-i l =
    IsFirstOf (λ f. IsInIndices (scope_of l.self) (expressions_of (drop l.i l.indices)) (drop l.i l.sizes) f) l.first

abbrev pub decreases-expression : goal.decreases-expression
decreases-expression l = size (expression_of l.expression.now)

abbrev pub decreases-indices : goal.decreases-indices
decreases-indices l = sizes (expressions_of l.indices.now)
