-- How far an expression still has to be gone into: a body of a function less far than any expression that calls it.
use Rattle.std.proofs.Common.{◌+◌, ◌*◌, map, take}
use Rattle.lrc_named_tree.specs.View.{expression_of, expressions_of}
use Rattle.lrc_named_names.specs.View.{declared_of}
use Rattle.lrc_named_constants.specs.View.{known_of}
use Rattle.lrc_named_constants.specs.Constant.{AreConstancies}
use Rattle.lrc_named_constants.proofs.Measure.{size, sizes, bodies}
use Rattle.lrc_named_constants.proofs.expressions.Constants.+constancy.Given as goal

abbrev pub decreases-constancy : goal.decreases-constancy
decreases-constancy l = l.below * (1 + bodies (declared_of l.self.now.names.now)) + size (expression_of l.expression.now)

abbrev pub decreases-constancies : goal.decreases-constancies
decreases-constancies l = l.below * (1 + bodies (declared_of l.self.now.names.now)) + sizes (expressions_of l.expressions.now)

abbrev pub decreases-constancy_of_call : goal.decreases-constancy_of_call
decreases-constancy_of_call l = l.below * (1 + bodies (declared_of l.self.now.names.now)) + (1 + sizes (expressions_of l.arguments.now))

abbrev pub invariant-constancies-loop-expression : goal.invariant-constancies-loop-expression
invariant-constancies-loop-expression l = AreConstancies (declared_of l.self.names.now) (map known_of l.known) (expressions_of (take l.expression-index l.expressions)) l.all.items
