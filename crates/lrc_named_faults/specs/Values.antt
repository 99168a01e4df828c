-- What is found of a constant, a size and a body: a value, or the first fault.
use Rattle.std.specs.Prelude.{◌≡◌, ◌≤◌, ℕ, Option, Some, List, [], ◌∷◌, ◌++◌}
use Rattle.lrc_named_tree.specs.Tree.{Expression}
use Rattle.lrc_named_constants.specs.declared.constancy.Constancy.TheVariants.{Value}
use Rattle.lrc_named_constants.specs.Constant.{IsConstancy, names_of}
use Rattle.lrc_named_expression_faults.specs.declared.extent.Extent.{Extent}
use Rattle.lrc_named_expression_faults.specs.declared.fault.Fault.{Fault}
use Rattle.lrc_named_expression_faults.specs.Extent.{IsExtent}
use Rattle.lrc_named_expression_faults.specs.Fault.{IsFirstOf, earlier}
use Rattle.lrc_named_expression_faults.specs.Scope.{Scope}
use Rattle.lrc_named_faults.specs.declared.values.Found.{Found}
use Rattle.lrc_named_faults.specs.declared.values.Found.TheVariants.{Good, Bad}
use Rattle.lrc_named_faults.specs.Declarations.{IsClean, IsInBody, IsInConstant, IsInSize}

abbrev pub IsConstantFound : Scope → Expression → Found ℕ → Type 0
IsConstantFound scope e (Good v) = IsClean scope e × IsConstancy scope.declared scope.known e (Value v)
IsConstantFound scope e (Bad fault) = IsFirstOf (λ f. IsInConstant scope e f) (Some fault)

abbrev pub IsSizeFound : Scope → Expression → Found ℕ → Type 0
IsSizeFound scope e (Good v) = IsClean scope e × IsConstancy scope.declared scope.known e (Value v) × (1 ≤ v) × (v ≤ 65536)
IsSizeFound scope e (Bad fault) = IsFirstOf (λ f. IsInSize scope e f) (Some fault)

abbrev pub IsBodyFound : Scope → Expression → Found Extent → Type 0
IsBodyFound scope e (Good x) = IsClean scope e × IsExtent scope.declared (names_of scope.known) e x × (x.weight ≤ 256)
IsBodyFound scope e (Bad fault) = IsFirstOf (λ f. IsInBody scope e f) (Some fault)

-- a size is added to those before it, or its fault to the first one
abbrev pub IsSizeJoined : Option Fault → Found ℕ → (old new : List ℕ) → Option Fault → Type 0
IsSizeJoined first (Good size) old new now = (new ≡ old ++ size ∷ []) × (now ≡ first)
IsSizeJoined first (Bad fault) old new now = now ≡ earlier first (Some fault)
