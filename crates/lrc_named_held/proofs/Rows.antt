-- The statements of a block, as they stand in a statement.
use Rattle.std.proofs.Common.{◌≡◌, Vec, ap, refl, ◌∙◌}
use Rattle.std.specs.declared.alloc.Global.{Global}
use Rattle.std.specs.Prelude.{Result, Ok, Err, OnOk}
use Rattle.lrc_named_core.specs.declared.tree.Statement.{Statement, Row_of-Statement, end_of-Statement, more_of-Statement}
use Rattle.lrc_named_core.specs.declared.tree.Statement.{items-the_row-Statement, items_hidden-the_row-Statement-0}
use Rattle.lrc_named_core.specs.declared.tree.Statement.TheBlock.{hidden-the_row-Statement-0}
use Rattle.lrc_named_core.specs.Tree.{next}
use Rattle.lrc_named_core.specs.View.{statement_of, row_of, block_of}

row_of_is : {m : _} (row : Row_of-Statement m) → row_of row ≡ block_of (items-the_row-Statement m row)
row_of_is end_of-Statement = refl
row_of_is (more_of-Statement first rest) = ap (next (statement_of first)) (row_of_is rest)

pub row_of_hidden : (v : Vec Statement Global) → row_of (hidden-the_row-Statement-0 v) ≡ block_of v.items
row_of_hidden v = row_of_is (hidden-the_row-Statement-0 v) ∙ ap block_of (items_hidden-the_row-Statement-0 v)

-- what is so of a result that went well
pub well : {A E : Type 0} (P Q : Type 0) (r : Result A E) → (P → Q) → OnOk r P → OnOk r Q
well P Q (Ok x) f h = f h
well P Q (Err e) f h = tt
