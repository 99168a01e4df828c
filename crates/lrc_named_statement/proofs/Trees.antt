-- The statements of the code as the definitions see them.
use Rattle.std.proofs.Common.{◌≡◌, List, [], ◌∷◌, ◌++◌, Vec, refl, sym, ap, ap₂, ◌∙◌}
use Rattle.std.specs.declared.alloc.Global.{Global}
use Rattle.lrc_named_tree.specs.declared.tree.Arm.{Arm}
use Rattle.lrc_named_tree.specs.declared.tree.Statement.{Statement, Row_of-Statement, end_of-Statement, more_of-Statement, Row_of-Arm, end_of-Arm, more_of-Arm}
use Rattle.lrc_named_tree.specs.declared.tree.Statement.{items-the_row-Statement, items_hidden-the_row-Statement-0, items_shown-the_row-Statement-0}
use Rattle.lrc_named_tree.specs.declared.tree.Statement.{items-the_row-Arm, items_hidden-the_row-Arm-1}
use Rattle.lrc_named_tree.specs.declared.tree.Statement.TheBlock.{hidden-the_row-Statement-0, hidden-the_row-Arm-1}
use Rattle.lrc_named_tree.specs.Tree as tree
use Rattle.lrc_named_tree.specs.View.{expression_of, statement_of, block_of, block_row, arm_row}
use Rattle.lrc_named_statement.specs.Body.{with_statement, append_arms}
use Rattle.lrc_named_statement.specs.Seen.{arms_of}

pub block_push : (statements : List Statement) (last : Statement) → block_of (statements ++ last ∷ []) ≡ with_statement (block_of statements) (statement_of last)
block_push [] last = refl
block_push (first ∷ rest) last = ap (tree.next (statement_of first)) (block_push rest last)

pub arms_push : (arms : List Arm) (last : Arm) →
    arms_of (arms ++ last ∷ [])
    ≡ append_arms (arms_of arms) (tree.arm last.at (expression_of last.condition) (block_of last.block.items) tree.no_arm)
arms_push [] last = refl
arms_push (first ∷ rest) last = ap (tree.arm first.at (expression_of first.condition) (block_of first.block.items)) (arms_push rest last)

block_row_is : {m : _} (row : Row_of-Statement m) → block_row row ≡ block_of (items-the_row-Statement m row)
block_row_is end_of-Statement = refl
block_row_is (more_of-Statement first rest) = ap (tree.next (statement_of first)) (block_row_is rest)

-- the statements of a block in a statement
pub block_row_hidden : (v : Vec Statement Global) → block_row (hidden-the_row-Statement-0 v) ≡ block_of v.items
block_row_hidden v = block_row_is (hidden-the_row-Statement-0 v) ∙ ap block_of (items_hidden-the_row-Statement-0 v)

arm_row_is : {m : _} (row : Row_of-Arm m) → arm_row row ≡ arms_of (items-the_row-Arm m row)
arm_row_is end_of-Arm = refl
arm_row_is (more_of-Arm at condition p row rest) =
    ap₂ (tree.arm at (expression_of condition)) (block_row_is row ∙ ap block_of (sym (items_shown-the_row-Statement-0 p row))) (arm_row_is rest)

-- each `else if` in an `if`
pub arm_row_hidden : (v : Vec Arm Global) → arm_row (hidden-the_row-Arm-1 v) ≡ arms_of v.items
arm_row_hidden v = arm_row_is (hidden-the_row-Arm-1 v) ∙ ap arms_of (items_hidden-the_row-Arm-1 v)
