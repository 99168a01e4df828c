-- The faults of a whole named program.
use Rattle.std.specs.Prelude.{◌⊎◌, ℕ, Option, Some, None, List, [], ◌∷◌}
use Rattle.lrc_named_tree.specs.Tree.{Block, Declaration, NamedTree, node_count, constant, shared, lock, function}
use Rattle.lrc_named_names.specs.Names.{Declared}
use Rattle.lrc_named_constants.specs.Layout.{Declares}
use Rattle.lrc_named_expression_faults.specs.declared.fault.Fault.{Fault}
use Rattle.lrc_named_expression_faults.specs.Fault.{IsNone}
use Rattle.lrc_named_statement_faults.specs.Statements.{IsInStatements}
use Rattle.lrc_named_faults.specs.Declarations.{IsInDeclaration}

-- the number of nodes that stands up to here
abbrev pub counted_with : Option ℕ → Declaration → Option ℕ
counted_with counted (node_count at n) = Some n
counted_with counted (constant at named value) = counted
counted_with counted (shared at items) = counted
counted_with counted (lock at items) = counted
counted_with counted (function at named parameters body) = counted

-- a declaration has a fault, or what stands behind it, where it has none and is declared. What stands behind a fault is not looked
-- at: its tokens stand behind too
abbrev pub IsInProgram : Option ℕ → List Declared → List Declaration → Block → Fault → Type 0
IsInProgram counted table [] statements fault = IsInStatements table statements fault
IsInProgram counted table (first ∷ others) statements fault =
    IsInDeclaration counted table first fault
    ⊎ (IsNone (λ f. IsInDeclaration counted table first f)
    × ((new : List Declared) × Declares table first new × IsInProgram (counted_with counted first) new others statements fault))

-- the faults of a named program
abbrev pub IsFaultOf : NamedTree → Fault → Type 0
IsFaultOf p fault = IsInProgram None [] p.declarations p.statements fault
