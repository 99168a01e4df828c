-- How far an expression still has to be gone into, and the extent of the expressions that the loop has passed.
use Rattle.std.proofs.Common.{map, drop}
use Rattle.lrc_named_tree.specs.View.{expression_of, expressions_of}
use Rattle.lrc_named_names.specs.View.{declared_of}
use Rattle.lrc_named_constants.specs.Constant.{names_of}
use Rattle.lrc_named_constants.specs.View.{known_of}
use Rattle.lrc_named_constants.proofs.Measure.{size, sizes}
use Rattle.lrc_named_expression_faults.specs.Extent.{AreExtent}
use Rattle.lrc_named_expression_faults.proofs.scope.Scope.+extent.Given as goal

abbrev pub invariant-extent_of_all-loop-i : goal.invariant-extent_of_all-loop-i
invariant-extent_of_all-loop-i l =
    AreExtent (declared_of l.self.names.now) (names_of (map known_of l.self.known.now)) (expressions_of (drop l.i l.expressions)) l.all

abbrev pub decreases-extent : goal.decreases-extent
decreases-extent l = size (expression_of l.expression.now)

abbrev pub decreases-extent_of_all : goal.decreases-extent_of_all
decreases-extent_of_all l = sizes (expressions_of l.expressions.now)
