-- The code's list of each `else if` as the definitions see it.
use Rattle.std.specs.Prelude.{List, [], ◌∷◌}
use Rattle.lrc_named_tree.specs.declared.tree.Arm as code_arm
use Rattle.lrc_named_tree.specs.Tree.{Arms}
use Rattle.lrc_named_tree.specs.View.{expression_of, block_of}

abbrev pub arms_of : List code_arm.Arm → Arms
arms_of [] = Arms.no_arm
arms_of (first ∷ rest) = Arms.arm first.at (expression_of first.condition) (block_of first.block.items) (arms_of rest)
