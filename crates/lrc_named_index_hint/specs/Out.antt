-- Where in a program an index stands that begins at a token and is out of range.
use Rattle.std.specs.Prelude.{◌≡◌, ◌⊎◌, ℕ, None, Some, List, [], take, slice_get}
use Rattle.lrc_named_tree.specs.Tree.{Block, Declaration, NamedTree, empty, node_count, constant, shared, lock, function}
use Rattle.lrc_named_names.specs.Names.{Declared}
use Rattle.lrc_named_constants.specs.Layout.{AreDeclared}
use Rattle.lrc_named_expression_faults.specs.Fault.{IsNone}
use Rattle.lrc_named_statement_faults.specs.Parts.{parts_of_block}
use Rattle.lrc_named_statement_faults.specs.Statements.{statement_scope}
use Rattle.lrc_named_faults.specs.Declarations.{body_scope}
use Rattle.lrc_named_faults.specs.Program.{IsInProgram}
use Rattle.lrc_named_index_hint.specs.Over.{IsOneOver}
use Rattle.lrc_named_index_hint.specs.Spots.{spots_in, spots_in_parts}

-- in the body of a function, by what is declared before it
abbrev pub IsOutIn : List Declared → (at : ℕ) → Declaration → (value size : ℕ) → Type 0
IsOutIn table at (node_count begins n) value size = ⊥
IsOutIn table at (constant begins named e) value size = ⊥
IsOutIn table at (shared begins items) value size = ⊥
IsOutIn table at (lock begins items) value size = ⊥
IsOutIn table at (function begins named parameters body) value size = IsOneOver (body_scope table parameters) (spots_in at body) value size

-- in statements, by what is declared
abbrev pub IsOutAmong : List Declared → (at : ℕ) → Block → (value size : ℕ) → Type 0
IsOutAmong table at statements value size =
    IsOneOver (statement_scope table (parts_of_block statements)) (spots_in_parts at (parts_of_block statements)) value size

-- these declarations have no fault, and something is so by what they declare
pub record IsBehind (front : List Declaration) (IsSo : List Declared → Type 0) : Type 0 where
  pub clean : IsNone (λ f. IsInProgram None [] front empty f)
  pub table : List Declared
  pub declared : AreDeclared [] front table
  pub so : IsSo table

-- in one of these declarations, behind those before it
abbrev pub IsOutInOne : List Declaration → (at value size : ℕ) → Type 0
IsOutInOne all at value size =
    (place : ℕ) × (d : Declaration) × (slice_get all place ≡ Some d) × IsBehind (take place all) (λ table. IsOutIn table at d value size)

-- in a program an index begins at this token that is constant, with this value, and is not below this size, which is that of what it
-- belongs to
abbrev pub IsOutOfRange : NamedTree → (at value size : ℕ) → Type 0
IsOutOfRange p at value size =
    IsBehind p.declarations (λ table. IsOutAmong table at p.statements value size) ⊎ IsOutInOne p.declarations at value size
