-- How far an expression still has to be gone into: three times its operators, and the sides of one by two more, or one more once
-- it is known that they have operators too.
use Rattle.std.proofs.Common.{◌+◌, ◌*◌}
use Rattle.lrc_program.specs.Sizes.{operators_in}
use Rattle.lrc_program.specs.Statements.{expression_of}
use Rattle.lrc_exec.proofs.value.+value.Given as goal

abbrev pub decreases-compute : goal.decreases-compute
decreases-compute l = 3 * operators_in (expression_of l.expression.now)

abbrev pub decreases-combine : goal.decreases-combine
decreases-combine l = 3 * (operators_in (expression_of l.left.now) + operators_in (expression_of l.right.now)) + 2

abbrev pub decreases-combine_deep : goal.decreases-combine_deep
decreases-combine_deep l = 3 * (operators_in (expression_of l.left.now) + operators_in (expression_of l.right.now)) + 1
