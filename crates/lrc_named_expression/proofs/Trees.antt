-- The expressions of the code as the definitions see them.
use Rattle.std.proofs.Common.{◌≡◌, List, [], ◌∷◌, ◌++◌, Vec, refl, ap, ◌∙◌}
use Rattle.std.specs.declared.alloc.Global.{Global}
use Rattle.lrc_named_tree.specs.declared.tree.Expression.{Expression, Row_of-Expression, end_of-Expression, more_of-Expression}
use Rattle.lrc_named_tree.specs.declared.tree.Expression.{items-the_row-Expression, items_hidden-the_row-Expression-0}
use Rattle.lrc_named_tree.specs.declared.tree.Expression.TheBlock.{hidden-the_row-Expression-0}
use Rattle.lrc_named_tree.specs.Tree as tree
use Rattle.lrc_named_tree.specs.View.{expression_of, expressions_of, row_of}
use Rattle.lrc_named_expression.specs.Partial.{push}

pub expressions_push : (some : List Expression) (last : Expression) → expressions_of (some ++ last ∷ []) ≡ push (expressions_of some) (expression_of last)
expressions_push [] last = refl
expressions_push (first ∷ rest) last = ap (tree.more (expression_of first)) (expressions_push rest last)

row_of_is : {m : _} (row : Row_of-Expression m) → row_of row ≡ expressions_of (items-the_row-Expression m row)
row_of_is end_of-Expression = refl
row_of_is (more_of-Expression first rest) = ap (tree.more (expression_of first)) (row_of_is rest)

-- the expressions behind a name in an expression
pub row_of_hidden : (v : Vec Expression Global) → row_of (hidden-the_row-Expression-0 v) ≡ expressions_of v.items
row_of_hidden v = row_of_is (hidden-the_row-Expression-0 v) ∙ ap expressions_of (items_hidden-the_row-Expression-0 v)
