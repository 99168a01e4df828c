-- How far an expression still has to be gone into.
use Rattle.std.proofs.Common.{◌+◌, ◌*◌}
use Rattle.lrc_named_core.specs.Shape.{tree_of}
use Rattle.lrc_named_text.proofs.Measure.{size}
use Rattle.lrc_named_text.proofs.expression.+expression.Given as goal

abbrev pub decreases-push_tree : goal.decreases-push_tree
decreases-push_tree l = 2 * size (tree_of l.tree.now)

abbrev pub decreases-push_sides : goal.decreases-push_sides
decreases-push_sides l = 2 * (size (tree_of l.left.now) + size (tree_of l.right.now)) + 1
