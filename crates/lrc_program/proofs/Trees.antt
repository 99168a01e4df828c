-- The statements of the code as the definitions see them.
use Rattle.std.proofs.Common.{◌≡◌, Vec, refl, ap, ◌∙◌}
use Rattle.std.specs.declared.alloc.Global.{Global}
use Rattle.lrc_program.specs.declared.Statement.{Statement, Row_of-Statement, end_of-Statement, more_of-Statement}
use Rattle.lrc_program.specs.declared.Statement.{items-the_row-Statement, items_hidden-the_row-Statement-0}
use Rattle.lrc_program.specs.declared.Statement.TheBlock.{hidden-the_row-Statement-0}
use Rattle.lrc_program.specs.Tree.{next, statement_of, row_of, block_of}

row_of_is : {m : _} (row : Row_of-Statement m) → row_of row ≡ block_of (items-the_row-Statement m row)
row_of_is end_of-Statement = refl
row_of_is (more_of-Statement first rest) = ap (next (statement_of first)) (row_of_is rest)

-- the statements of a block in a statement
pub row_of_hidden : (v : Vec Statement Global) → row_of (hidden-the_row-Statement-0 v) ≡ block_of v.items
row_of_hidden v = row_of_is (hidden-the_row-Statement-0 v) ∙ ap block_of (items_hidden-the_row-Statement-0 v)
