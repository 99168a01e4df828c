-- The code's statements as the definitions see them: what stands in a statement is what stands in its lists.
use Rattle.std.proofs.Common.{◌≡◌, ℕ, ◌<◌, ◌≤◌, ◌-◌, List, [], ◌∷◌, length, get_or, take, drop, vec_len, arith, Vec, refl, sym, subst, ap, ap₂, ◌∙◌}
use Rattle.std.specs.declared.alloc.Global.{Global}
use Rattle.std.proofs.lemmas.List.{take_rest}
use Rattle.lrc_named_tree.specs.declared.tree.Arm as code_arm
use Rattle.lrc_named_tree.specs.declared.tree.Expression as code_expression
use Rattle.lrc_named_tree.specs.declared.tree.Name as code_name
use Rattle.lrc_named_tree.specs.declared.tree.Place as code_place
use Rattle.lrc_named_tree.specs.declared.tree.Statement.{Statement, With, If, While, For}
use Rattle.lrc_named_tree.specs.declared.tree.Statement.{Row_of-Statement, end_of-Statement, more_of-Statement, Row_of-Arm, end_of-Arm, more_of-Arm}
use Rattle.lrc_named_tree.specs.declared.tree.Statement.{items-the_row-Statement, items_hidden-the_row-Statement-0, items_shown-the_row-Statement-0, items-the_row-Arm, items_hidden-the_row-Arm-1}
use Rattle.lrc_named_tree.specs.declared.tree.Statement.TheBlock.{hidden-the_row-Statement-0, hidden-the_row-Arm-1}
use Rattle.lrc_named_tree.specs.Tree.{Expression, Block, Arms, with_do, if_else, while_do, for_do}
use Rattle.lrc_named_tree.specs.View.{named_of, place_of, expression_of, statement_of, block_row, arm_row, block_of}
use Rattle.lrc_named_names.specs.Names.{Declared}
use Rattle.lrc_named_core.specs.declared.tree.Statement as code_core
use Rattle.lrc_named_translation.specs.Added.{IsAdded}
use Rattle.lrc_named_translation.proofs.Adding.{added_as}
use Rattle.lrc_named_statements.specs.Statements.{AreCores, IsChoice, IsElse, else_if, last_block}
use Rattle.lrc_named_blocks.specs.View.{arms_of}

block_row_is : {m : _} (row : Row_of-Statement m) → block_row row ≡ block_of (items-the_row-Statement m row)
block_row_is end_of-Statement = refl
block_row_is (more_of-Statement first rest) = ap (Block.next (statement_of first)) (block_row_is rest)

block_hidden : (v : Vec Statement Global) → block_row (hidden-the_row-Statement-0 v) ≡ block_of v.items
block_hidden v = block_row_is (hidden-the_row-Statement-0 v) ∙ ap block_of (items_hidden-the_row-Statement-0 v)

arm_row_is : {m : _} (row : Row_of-Arm m) → arm_row row ≡ arms_of (items-the_row-Arm m row)
arm_row_is end_of-Arm = refl
arm_row_is (more_of-Arm at condition p row rest) =
    ap₂ (Arms.arm at (expression_of condition)) (block_row_is row ∙ ap block_of (sym (items_shown-the_row-Statement-0 p row))) (arm_row_is rest)

arm_hidden : (v : Vec code_arm.Arm Global) → arm_row (hidden-the_row-Arm-1 v) ≡ arms_of v.items
arm_hidden v = arm_row_is (hidden-the_row-Arm-1 v) ∙ ap arms_of (items_hidden-the_row-Arm-1 v)

pub with_seen : (at : ℕ) (p : code_place.Place) (v : Vec Statement Global) (close : ℕ)
    → statement_of (With at p v close) ≡ with_do at (place_of p) (block_of v.items) close
with_seen at p v close = ap (λ b. with_do at (place_of p) b close) (block_hidden v)

pub if_seen : (at : ℕ) (e : code_expression.Expression) (v : Vec Statement Global) (arms : Vec code_arm.Arm Global) (w : Vec Statement Global)
    → statement_of (If at e v arms w) ≡ if_else at (expression_of e) (block_of v.items) (arms_of arms.items) (block_of w.items)
if_seen at e v arms w =
    ap (λ b. if_else at (expression_of e) b (arm_row (hidden-the_row-Arm-1 arms)) (block_row (hidden-the_row-Statement-0 w))) (block_hidden v)
    ∙ ap (λ a. if_else at (expression_of e) (block_of v.items) a (block_row (hidden-the_row-Statement-0 w))) (arm_hidden arms)
    ∙ ap (λ b. if_else at (expression_of e) (block_of v.items) (arms_of arms.items) b) (block_hidden w)

pub while_seen : (at : ℕ) (e : code_expression.Expression) (v : Vec Statement Global)
    → statement_of (While at e v) ≡ while_do at (expression_of e) (block_of v.items)
while_seen at e v = ap (while_do at (expression_of e)) (block_hidden v)

pub for_seen : (at : ℕ) (name : code_name.Name) (first end : code_expression.Expression) (v : Vec Statement Global)
    → statement_of (For at name first end v) ≡ for_do at (named_of name) (expression_of first) (expression_of end) (block_of v.items)
for_seen at name first end v = ap (for_do at (named_of name) (expression_of first) (expression_of end)) (block_hidden v)

pub if_same : (at : ℕ) (e : Expression) {a b : Block} {c d : Arms} {f g : Block} → a ≡ b → c ≡ d → f ≡ g → if_else at e a c f ≡ if_else at e b d g
if_same at e h k l = cc

-- no `else if`
pub else_empty : (declared : List Declared) (held : ℕ) (arms : List code_arm.Arm) (block : Block) (old new : List code_core.Statement) → length arms < 1
    → IsAdded (AreCores declared held block) old new → IsAdded (IsElse declared held (arms_of arms) block) old new
else_empty declared held [] block old new is h =
    added_as (AreCores declared held block) (IsElse declared held Arms.no_arm block) old new (λ b m. last_block m) h
else_empty declared held (a ∷ arms) block old new is h = absurd (omega arith)

-- the first `else if`, and the others
arms_first : (arms : List code_arm.Arm) (a : code_arm.Arm) → 1 ≤ length arms → a ≡ get_or arms 0 a
    → arms_of arms ≡ Arms.arm a.at (expression_of a.condition) (block_of a.block.items) (arms_of (take (length arms - 1) (drop 1 arms)))
arms_first [] a some is = absurd (omega arith)
arms_first (x ∷ xs) a some is =
    ap (λ (y : code_arm.Arm). Arms.arm y.at (expression_of y.condition) (block_of y.block.items) (arms_of xs)) (sym is)
    ∙ ap (λ l. Arms.arm a.at (expression_of a.condition) (block_of a.block.items) (arms_of l)) (sym (take_rest (x ∷ xs) 1))

pub else_more : (declared : List Declared) (held : ℕ) (arms : List code_arm.Arm) (a : code_arm.Arm) (then otherwise : Block) (old new : List code_core.Statement)
    → 1 ≤ length arms → a ≡ get_or arms 0 a → then ≡ block_of a.block.items
    → IsAdded (IsChoice declared held a.at (expression_of a.condition) then (arms_of (take (length arms - 1) (drop 1 arms))) otherwise) old new
    → IsAdded (IsElse declared held (arms_of arms) otherwise) old new
else_more declared held arms a then otherwise old new some is same h =
    let others = arms_of (take (length arms - 1) (drop 1 arms)) in
    added_as (IsChoice declared held a.at (expression_of a.condition) then others otherwise) (IsElse declared held (arms_of arms) otherwise) old new
    (λ b m. subst (λ x. IsElse declared held x otherwise b) (sym (arms_first arms a some is))
    (else_if (subst (λ y. IsChoice declared held a.at (expression_of a.condition) y others otherwise b) same m))) h

-- how long the list of a vector is
pub long_as : (v : Vec code_core.Statement Global) → length v.items ≡ vec_len v
long_as v = omega arith
