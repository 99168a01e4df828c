-- What is found of a whole named program: what it declares, or the first fault.
use Rattle.std.specs.Prelude.{◌≡◌, ℕ, Option, Some, None, List, [], ◌∷◌}
use Rattle.lrc_named_tree.specs.Tree.{Block, Declaration, NamedTree}
use Rattle.lrc_named_names.specs.Names.{Declared}
use Rattle.lrc_named_names.specs.View.{declared_of}
use Rattle.lrc_named_constants.specs.Layout.{AreDeclared}
use Rattle.lrc_named_expression_faults.specs.declared.fault.Fault.{Fault}
use Rattle.lrc_named_expression_faults.specs.Fault.{IsFirstOf, IsNone}
use Rattle.lrc_named_faults.specs.declared.layout.Layout as code_layout
use Rattle.lrc_named_faults.specs.declared.values.Found.{Found}
use Rattle.lrc_named_faults.specs.declared.values.Found.TheVariants.{Good, Bad}
use Rattle.lrc_named_faults.specs.Layout.{IsLaidOut}
use Rattle.lrc_named_faults.specs.Program.{IsFaultOf, IsInProgram, counted_with}

-- the number of nodes that stands in these declarations, behind one that may stand before them
abbrev pub counted_in : Option ℕ → List Declaration → Option ℕ
counted_in counted [] = counted
counted_in counted (first ∷ others) = counted_in (counted_with counted first) others

-- declarations lead up to some that are left: the program has the faults of what is left, where so much is declared and counted, and
-- declares what is declared with it
pub record LeadsTo (before : Option ℕ) (old : List Declared) (all : List Declaration) (counted : Option ℕ) (table : List Declared) (left : List Declaration) :
    Type 0 where
  pub there : (statements : Block) (fault : Fault) → IsInProgram before old all statements fault → IsInProgram counted table left statements fault
  pub back : (statements : Block) (fault : Fault) → IsInProgram counted table left statements fault → IsInProgram before old all statements fault
  pub declared : (new : List Declared) → AreDeclared table left new → AreDeclared old all new
  pub count : counted_in before all ≡ counted_in counted left

-- declarations are taken, or the program has a first fault, whatever its statements are
abbrev pub AreDeclarationsTaken : (old new : code_layout.Layout) → List Declaration → Option Fault → Type 0
AreDeclarationsTaken old new all (Some fault) =
    (statements : Block) → IsFirstOf (λ f. IsInProgram old.nodes (declared_of old.names) all statements f) (Some fault)
AreDeclarationsTaken old new all None = LeadsTo old.nodes (declared_of old.names) all new.nodes (declared_of new.names) [] × IsLaidOut new

-- a program has no fault, and declares this; or it has a first fault
abbrev pub IsChecked : NamedTree → Found code_layout.Layout → Type 0
IsChecked p (Good layout) =
    IsNone (λ f. IsFaultOf p f) × AreDeclared [] p.declarations (declared_of layout.names) × IsLaidOut layout
    × (layout.nodes ≡ counted_in None p.declarations)
IsChecked p (Bad fault) = IsFirstOf (λ f. IsFaultOf p f) (Some fault)
