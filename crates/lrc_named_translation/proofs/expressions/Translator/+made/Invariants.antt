-- How far an expression still has to be gone into, and what stands in front when some of the expressions have been made.
use Rattle.std.proofs.Common.{◌+◌, ◌*◌, map, take}
use Rattle.lrc_named_tree.specs.View.{expressions_of}
use Rattle.lrc_named_tree.specs.View as trees
use Rattle.lrc_named_names.specs.View.{declared_of}
use Rattle.lrc_named_constants.specs.View.{known_of}
use Rattle.lrc_named_constants.proofs.Measure.{size, sizes}
use Rattle.lrc_named_core.specs.View.{expression_of, origin_of}
use Rattle.lrc_named_translation.specs.Added.{IsAdded}
use Rattle.lrc_named_translation.specs.Made.{AreMade}
use Rattle.lrc_named_translation.proofs.Measure.{weight}
use Rattle.lrc_named_translation.proofs.expressions.Translator.+made.Given as goal

abbrev pub decreases-made : goal.decreases-made
decreases-made l = weight (declared_of l.self.now.names.now) l.below (6 * size (trees.expression_of l.expression.now) + 5)

abbrev pub decreases-by_rule : goal.decreases-by_rule
decreases-by_rule l = weight (declared_of l.self.now.names.now) l.below (6 * size (trees.expression_of l.expression.now) + 4)

abbrev pub decreases-element : goal.decreases-element
decreases-element l = weight (declared_of l.self.now.names.now) l.below (6 * sizes (expressions_of l.element.indices.now) + 9)

abbrev pub decreases-read : goal.decreases-read
decreases-read l = weight (declared_of l.self.now.names.now) l.below (6 * sizes (expressions_of l.element.indices.now) + 8)

abbrev pub decreases-call : goal.decreases-call
decreases-call l = weight (declared_of l.self.now.names.now) l.below (1 + 6 * sizes (expressions_of l.arguments.now))

abbrev pub decreases-all_made : goal.decreases-all_made
decreases-all_made l = weight (declared_of l.self.now.names.now) l.below (6 * sizes (expressions_of l.expressions.now))

abbrev pub decreases-junction : goal.decreases-junction
decreases-junction l =
    weight (declared_of l.self.now.names.now) l.below (6 * (size (trees.expression_of l.junction.left.now) + size (trees.expression_of l.junction.right.now)) + 6)

abbrev pub invariant-all_made-loop-expression : goal.invariant-all_made-loop-expression
invariant-all_made-loop-expression l =
    IsAdded (λ b. AreMade (declared_of l.self.names.now) (origin_of l.self.origin) (map known_of l.with.known.now)
    (map expression_of l.with.cores.now) (expressions_of (take l.expression-index l.expressions)) l.initial.taken b
    (map expression_of l.all.items) l.taken) l.initial.before.items l.before.items
