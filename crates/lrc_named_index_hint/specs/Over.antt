-- Indices whose values are not below their sizes.
use Rattle.std.specs.Prelude.{◌≡◌, ◌≤◌, ◌⊎◌, ℕ, Option, Some, None, List, [], ◌∷◌, slice_get}
use Rattle.lrc_named_tree.specs.Tree.{Expression}
use Rattle.lrc_named_names.specs.Names.{constant, shared, lock, function}
use Rattle.lrc_named_constants.specs.declared.constancy.Constancy.TheVariants.{Value}
use Rattle.lrc_named_constants.specs.Constant.{IsConstancy}
use Rattle.lrc_named_expression_faults.specs.Expressions.{IsInExpression}
use Rattle.lrc_named_expression_faults.specs.Fault.{IsNone}
use Rattle.lrc_named_expression_faults.specs.Scope.{Scope, Sense, parameter, declared, private_name, unknown, sense_of}
use Rattle.lrc_named_index_hint.specs.declared.over.Beyond.{Beyond}
use Rattle.lrc_named_index_hint.specs.Spots.{Spot}

-- the sizes of a shared item, and of a lock: none of anything else
abbrev pub sizes_of : Sense → List ℕ
sizes_of parameter = []
sizes_of (declared (constant v)) = []
sizes_of (declared (shared item)) = item.sizes
sizes_of (declared (lock item)) = item.sizes
sizes_of (declared (function parameters body)) = []
sizes_of private_name = []
sizes_of unknown = []

-- an index has no fault inside and is constant, with this value, which is not below this size
pub record IsIndexOver (scope : Scope) (index : Expression) (value size : ℕ) : Type 0 where
  pub clean : IsNone (λ f. IsInExpression scope index f)
  pub is : IsConstancy scope.declared scope.known index (Value value)
  pub over : size ≤ value

-- so it is of an index, and of the size that what it belongs to has there
abbrev pub IsOver : Scope → Spot → (value size : ℕ) → Type 0
IsOver scope spot value size =
    (slice_get (sizes_of (sense_of scope spot.name.bytes)) spot.number ≡ Some size) × IsIndexOver scope spot.index value size

-- so it is of one of these
abbrev pub IsOneOver : Scope → List Spot → (value size : ℕ) → Type 0
IsOneOver scope [] value size = ⊥
IsOneOver scope (spot ∷ others) value size = IsOver scope spot value size ⊎ IsOneOver scope others value size

-- a value and a size of which this is so, or none, where it is so of none
abbrev pub IsFound : (IsSo : ℕ → ℕ → Type 0) → Option Beyond → Type 0
IsFound IsSo None = (value size : ℕ) → IsSo value size → ⊥
IsFound IsSo (Some found) = IsSo found.value found.size
