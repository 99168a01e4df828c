-- How far a condition still has to be gone into: three times its operators, and the sides of one by two more, or one more once
-- it is known what they are to one another.
use Rattle.std.proofs.Common.{◌+◌, ◌*◌}
use Rattle.lrc_program.specs.Sizes.{operators_in}
use Rattle.lrc_program.specs.Statements.{expression_of}
use Rattle.lrc_ranges.proofs.narrow.+narrow.Given as goal

abbrev pub decreases-narrow : goal.decreases-narrow
decreases-narrow l = 3 * operators_in (expression_of l.condition.now)

abbrev pub decreases-narrow_sides : goal.decreases-narrow_sides
decreases-narrow_sides l = 3 * (operators_in (expression_of l.left.now) + operators_in (expression_of l.right.now)) + 2

abbrev pub decreases-narrow_compared : goal.decreases-narrow_compared
decreases-narrow_compared l = 3 * (operators_in (expression_of l.left.now) + operators_in (expression_of l.right.now)) + 1
