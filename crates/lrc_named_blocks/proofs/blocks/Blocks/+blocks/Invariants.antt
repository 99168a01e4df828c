-- How large the statements are that are still to be gone into, and what stands there when some statements of a block have been.
use Rattle.std.proofs.Common.{◌+◌, ◌*◌, take}
use Rattle.lrc_named_tree.specs.View as trees
use Rattle.lrc_named_names.specs.View.{declared_of}
use Rattle.lrc_named_translation.specs.Added.{IsAdded}
use Rattle.lrc_named_statements.specs.Statements.{AreCores}
use Rattle.lrc_named_blocks.specs.View.{arms_of}
use Rattle.lrc_named_blocks.proofs.Measure.{size, sizes, arm_sizes}
use Rattle.lrc_named_blocks.proofs.blocks.Blocks.+blocks.Given as goal

abbrev pub decreases-block : goal.decreases-block
decreases-block l = 4 * sizes (trees.block_of l.statements.now)

abbrev pub decreases-add : goal.decreases-add
decreases-add l = 4 * size (trees.statement_of l.statement.now)

abbrev pub decreases-with_lock : goal.decreases-with_lock
decreases-with_lock l = 4 * sizes (trees.block_of l.with.inside.now) + 3

abbrev pub decreases-with_held : goal.decreases-with_held
decreases-with_held l = 4 * sizes (trees.block_of l.with.inside.now) + 2

abbrev pub decreases-guard : goal.decreases-guard
decreases-guard l = 4 * sizes (trees.block_of l.with.inside.now) + 1

abbrev pub decreases-repeat : goal.decreases-repeat
decreases-repeat l = 4 * sizes (trees.block_of l.inside.now) + 1

abbrev pub decreases-count : goal.decreases-count
decreases-count l = 4 * sizes (trees.block_of l.count.inside.now) + 3

abbrev pub decreases-count_held : goal.decreases-count_held
decreases-count_held l = 4 * sizes (trees.block_of l.count.inside.now) + 2

abbrev pub decreases-rounds : goal.decreases-rounds
decreases-rounds l = 4 * sizes (trees.block_of l.count.inside.now) + 1

abbrev pub decreases-choice : goal.decreases-choice
decreases-choice l = 4 * (sizes (trees.block_of l.choice.then.now) + (arm_sizes (arms_of l.choice.arms.now) + sizes (trees.block_of l.choice.otherwise.now))) + 3

abbrev pub decreases-otherwise : goal.decreases-otherwise
decreases-otherwise l = 4 * (arm_sizes (arms_of l.arms.now) + sizes (trees.block_of l.otherwise.now)) + 2

abbrev pub invariant-block-loop-statement : goal.invariant-block-loop-statement
invariant-block-loop-statement l =
    IsAdded (AreCores (declared_of l.self.names.now) l.held (trees.block_of (take l.statement-index l.statements))) l.initial.into.items l.into.items
