-- The code's statements as the definitions see them: the statements in a choice and in a loop are those of its lists.
use Rattle.std.proofs.Common.{◌≡◌, Vec, refl, ap, ◌∙◌}
use Rattle.std.specs.declared.alloc.Global.{Global}
use Rattle.lrc_named_core.specs.declared.tree.Expression as code_core
use Rattle.lrc_named_core.specs.declared.tree.Origin as code_origin
use Rattle.lrc_named_core.specs.declared.tree.Statement.{Statement, Row_of-Statement, end_of-Statement, more_of-Statement, If, While}
use Rattle.lrc_named_core.specs.declared.tree.Statement.{items-the_row-Statement, items_hidden-the_row-Statement-0}
use Rattle.lrc_named_core.specs.declared.tree.Statement.TheBlock.{hidden-the_row-Statement-0}
use Rattle.lrc_named_core.specs.Tree.{if_else, while_do, next}
use Rattle.lrc_named_core.specs.View.{statement_of, row_of, block_of, origin_of, expression_of}

row_of_is : {m : _} (row : Row_of-Statement m) → row_of row ≡ block_of (items-the_row-Statement m row)
row_of_is end_of-Statement = refl
row_of_is (more_of-Statement first rest) = ap (next (statement_of first)) (row_of_is rest)

pub row_of_hidden : (v : Vec Statement Global) → row_of (hidden-the_row-Statement-0 v) ≡ block_of v.items
row_of_hidden v = row_of_is (hidden-the_row-Statement-0 v) ∙ ap block_of (items_hidden-the_row-Statement-0 v)

pub if_seen : (o : code_origin.Origin) (e : code_core.Expression) (a b : Vec Statement Global)
    → statement_of (If o e a b) ≡ if_else (origin_of o) (expression_of e) (block_of a.items) (block_of b.items)
if_seen o e a b =
    ap (λ x. if_else (origin_of o) (expression_of e) x (row_of (hidden-the_row-Statement-0 b))) (row_of_hidden a)
    ∙ ap (if_else (origin_of o) (expression_of e) (block_of a.items)) (row_of_hidden b)

pub while_seen : (o : code_origin.Origin) (e : code_core.Expression) (a : Vec Statement Global)
    → statement_of (While o e a) ≡ while_do (origin_of o) (expression_of e) (block_of a.items)
while_seen o e a = ap (while_do (origin_of o) (expression_of e)) (row_of_hidden a)
