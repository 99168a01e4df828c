-- The code's statements as the definitions see them: those in a tree are those of its lists.
use Rattle.std.proofs.Common.{◌≡◌, List, [], ◌∷◌, ◌++◌, Vec, refl, sym, ap, ◌∙◌, append-nil}
use Rattle.std.specs.declared.alloc.Global.{Global}
use Rattle.lrc_named_tree.specs.declared.tree.Arm.{Arm}
use Rattle.lrc_named_tree.specs.declared.tree.Expression as code_expression
use Rattle.lrc_named_tree.specs.declared.tree.Statement.{Statement, Row_of-Statement, end_of-Statement, more_of-Statement, Row_of-Arm, end_of-Arm, more_of-Arm}
use Rattle.lrc_named_tree.specs.declared.tree.Statement.{items-the_row-Statement, items_hidden-the_row-Statement-0, items_shown-the_row-Statement-0, items-the_row-Arm, items_hidden-the_row-Arm-1}
use Rattle.lrc_named_tree.specs.declared.tree.Statement.TheBlock.{hidden-the_row-Statement-0, hidden-the_row-Arm-1, shown-the_row-Statement-0}
use Rattle.lrc_named_tree.specs.Tree.{Arms, next, arm, no_arm}
use Rattle.lrc_named_tree.specs.View.{arm_row, block_of, block_row, expression_of, expressions_of, statement_of}
use Rattle.lrc_named_statement_faults.specs.Parts.{arms_of, parts_of, parts_of_arms, parts_of_block, parts_of_values, value, with_arm}
use Rattle.lrc_named_statement_faults.proofs.Growing.{IsPieced}

block_row_is : {m : _} (row : Row_of-Statement m) → block_row row ≡ block_of (items-the_row-Statement m row)
block_row_is end_of-Statement = refl
block_row_is (more_of-Statement first rest) = ap (next (statement_of first)) (block_row_is rest)

-- the statements of a block in a statement
pub block_row_hidden : (v : Vec Statement Global) → block_row (hidden-the_row-Statement-0 v) ≡ block_of v.items
block_row_hidden v = block_row_is (hidden-the_row-Statement-0 v) ∙ ap block_of (items_hidden-the_row-Statement-0 v)

arm_row_is : {m : _} (row : Row_of-Arm m) → arm_row row ≡ arms_of (items-the_row-Arm m row)
arm_row_is end_of-Arm = refl
arm_row_is (more_of-Arm at condition p row rest) =
    ap (λ b. arm at (expression_of condition) b (arm_row rest)) (block_row_is row ∙ ap block_of (sym (items_shown-the_row-Statement-0 p row)))
    ∙ ap (λ l. arm at (expression_of condition) (block_of (shown-the_row-Statement-0 p row).items) l) (arm_row_is rest)

-- each `else if` of a statement
pub arm_row_hidden : (v : Vec Arm Global) → arm_row (hidden-the_row-Arm-1 v) ≡ arms_of v.items
arm_row_hidden v = arm_row_is (hidden-the_row-Arm-1 v) ∙ ap arms_of (items_hidden-the_row-Arm-1 v)

pub values_pieced : IsPieced (λ (xs : List code_expression.Expression). parts_of_values (expressions_of xs)) (λ x. value (expression_of x) ∷ [])
values_pieced = record { nothing = refl; next = λ x xs. refl }

pub blocks_pieced : IsPieced (λ (xs : List Statement). parts_of_block (block_of xs)) (λ x. parts_of (statement_of x))
blocks_pieced = record { nothing = refl; next = λ x xs. refl }

arm_and_others : (x : Arm) (others : Arms) → parts_of_arms (with_arm x others) ≡ parts_of_arms (with_arm x no_arm) ++ parts_of_arms others
arm_and_others a others =
    ap (λ l. value (expression_of a.condition) ∷ (l ++ parts_of_arms others)) (sym (append-nil (parts_of_block (block_of a.block.items))))

pub arms_pieced : IsPieced (λ (xs : List Arm). parts_of_arms (arms_of xs)) (λ x. parts_of_arms (with_arm x no_arm))
arms_pieced = record { nothing = refl; next = λ x xs. arm_and_others x (arms_of xs) }
