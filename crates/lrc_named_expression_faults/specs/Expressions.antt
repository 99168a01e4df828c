-- The faults of an expression, by the scope in which it stands.
use Rattle.std.specs.Prelude.{◌≡◌, ◌≤◌, ◌⊎◌, ℕ, Bool, true, Option, Some, None, List, [], length, drop, slice_get}
use Rattle.lrc_named_tree.specs.Tree.{Named, Expression, Expressions, number, me, nodes, element, call, group, negation, binary, both, either, none, more}
use Rattle.lrc_named_tree.specs.Ends.{first_of}
use Rattle.lrc_named_names.specs.Names.{constant, shared, lock, function}
use Rattle.lrc_named_constants.specs.declared.constancy.Constancy.TheVariants.{Value}
use Rattle.lrc_named_constants.specs.Constant.{IsConstancy}
use Rattle.lrc_named_constants.specs.Well.{bytes_of}
use Rattle.lrc_named_expression_faults.specs.declared.fault.Fault.{Fault}
use Rattle.lrc_named_expression_faults.specs.declared.fault.FaultKind.TheVariants.{UnknownName, WrongUse, WrongIndices, WrongArguments, NotConstant, IndexOutOfRange}
use Rattle.lrc_named_expression_faults.specs.Fault.{IsNone, fault_at}
use Rattle.lrc_named_expression_faults.specs.Scope.{Scope, Sense, parameter, declared, private_name, unknown, sense_of, shared_sizes}
use Rattle.lrc_named_expression_faults.specs.Counts.{miscounted, miscalled}
use Rattle.lrc_named_expression_faults.specs.Extent.{Varies, before}

abbrev pub AreSome : Expressions → Type 0
AreSome none = ⊥
AreSome (more e others) = Unit {0}

-- the token has the wrong use of a name, and where something is so
abbrev pub IsWrongUse : Named → Fault → Type 0
IsWrongUse named fault = fault ≡ fault_at named.at WrongUse

-- an item with these sizes has other numbers of indices
abbrev pub AreWrongIndices : Named → Expressions → List ℕ → Fault → Type 0
AreWrongIndices named indices sizes fault = (token : ℕ) × (miscounted named.at indices sizes ≡ Some token) × (fault ≡ fault_at token WrongIndices)

-- a call with so many parameters has another number of arguments
abbrev pub AreWrongArguments : Expressions → (close : ℕ) → (wanted : ℕ) → Fault → Type 0
AreWrongArguments arguments close wanted fault = (token : ℕ) × (miscalled close arguments wanted ≡ Some token) × (fault ≡ fault_at token WrongArguments)

-- a name without arguments: nothing that is unknown; no lock and no function; nothing but a shared item has indices, and as many as
-- it has sizes; and no shared item where a constant has to stand
abbrev pub IsInElement : (is_constant : Bool) → Sense → Named → Expressions → Fault → Type 0
IsInElement is_constant unknown named indices fault = fault ≡ fault_at named.at UnknownName
IsInElement is_constant parameter named indices fault = AreSome indices × IsWrongUse named fault
IsInElement is_constant private_name named indices fault = AreSome indices × IsWrongUse named fault
IsInElement is_constant (declared (constant v)) named indices fault = AreSome indices × IsWrongUse named fault
IsInElement is_constant (declared (lock item)) named indices fault = IsWrongUse named fault
IsInElement is_constant (declared (function parameters body)) named indices fault = IsWrongUse named fault
IsInElement is_constant (declared (shared item)) named indices fault =
    ((is_constant ≡ true) × IsWrongUse named fault) ⊎ AreWrongIndices named indices item.sizes fault

-- a name with arguments: a function, which takes so many, and is constant where a constant has to stand
abbrev pub IsInCall : Scope → Sense → Named → Expressions → (close : ℕ) → Fault → Type 0
IsInCall scope unknown named arguments close fault = fault ≡ fault_at named.at UnknownName
IsInCall scope parameter named arguments close fault = IsWrongUse named fault
IsInCall scope private_name named arguments close fault = IsWrongUse named fault
IsInCall scope (declared (constant v)) named arguments close fault = IsWrongUse named fault
IsInCall scope (declared (shared item)) named arguments close fault = IsWrongUse named fault
IsInCall scope (declared (lock item)) named arguments close fault = IsWrongUse named fault
IsInCall scope (declared (function parameters body)) named arguments close fault =
    (((scope.constant ≡ true) × Varies (before scope.declared named.bytes) (bytes_of parameters) body) × (fault ≡ fault_at named.at NotConstant))
    ⊎ AreWrongArguments arguments close (length parameters) fault

-- an index without a fault that is constant, with a value that is not below the size
abbrev pub IsBeyond : (Fault → Type 0) → Scope → Expression → ℕ → Fault → Type 0
IsBeyond IsInside scope index size fault =
    (IsNone IsInside × ((value : ℕ) × IsConstancy scope.declared scope.known index (Value value) × (size ≤ value)))
    × (fault ≡ fault_at (first_of index) IndexOutOfRange)

-- the value of a constant expression, if it is one that has a value
abbrev pub IsValueOf : Scope → Expression → Option ℕ → Type 0
IsValueOf scope e None = (value : ℕ) → IsConstancy scope.declared scope.known e (Value value) → ⊥
IsValueOf scope e (Some value) = IsConstancy scope.declared scope.known e (Value value)

-- the faults of an index, which are those inside it, and of its value
abbrev pub IsInIndex : (Fault → Type 0) → Scope → Expression → Option ℕ → Fault → Type 0
IsInIndex IsInside scope index None fault = IsInside fault
IsInIndex IsInside scope index (Some size) fault = IsInside fault ⊎ IsBeyond IsInside scope index size fault

abbrev mutual
  pub IsInExpression : Scope → Expression → Fault → Type 0
  IsInExpression scope (number at n) fault = ⊥
  IsInExpression scope (me at) fault = (scope.constant ≡ true) × (fault ≡ fault_at at NotConstant)
  IsInExpression scope (nodes at) fault = (scope.constant ≡ true) × (fault ≡ fault_at at NotConstant)
  IsInExpression scope (element named indices last) fault =
      IsInElement scope.constant (sense_of scope named.bytes) named indices fault
      ⊎ IsInIndices scope indices (shared_sizes (sense_of scope named.bytes)) fault
  IsInExpression scope (call named arguments close) fault =
      IsInCall scope (sense_of scope named.bytes) named arguments close fault ⊎ IsInIndices scope arguments [] fault
  IsInExpression scope (group opens e close) fault = IsInExpression scope e fault
  IsInExpression scope (negation at e) fault = IsInExpression scope e fault
  IsInExpression scope (binary left o right) fault = IsInExpression scope left fault ⊎ IsInExpression scope right fault
  IsInExpression scope (both left right) fault = IsInExpression scope left fault ⊎ IsInExpression scope right fault
  IsInExpression scope (either left right) fault = IsInExpression scope left fault ⊎ IsInExpression scope right fault

  -- of indices and the sizes that there are for them, or of arguments, which have none
  pub IsInIndices : Scope → Expressions → List ℕ → Fault → Type 0
  IsInIndices scope none sizes fault = ⊥
  IsInIndices scope (more e others) sizes fault =
      IsInIndex (λ inside. IsInExpression scope e inside) scope e (slice_get sizes 0) fault ⊎ IsInIndices scope others (drop 1 sizes) fault
