-- The faults of statements.
use Rattle.std.specs.Prelude.{◌≡◌, ◌+◌, ◌⊎◌, ◌==◌, ℕ, Bool, true, false, if◌then◌else◌, List, [], ◌∷◌, ◌++◌, filter}
use Rattle.lrc_named_tree.specs.Tree.{Named, Expression, Expressions, number, me, nodes, element, call, group, negation, binary, both, either, none, more, Block}
use Rattle.lrc_named_names.specs.Names.{Declared, constant, shared, lock, function}
use Rattle.lrc_named_constants.specs.Well.{bytes_of, is_among}
use Rattle.lrc_named_expression_faults.specs.declared.fault.Fault.{Fault}
use Rattle.lrc_named_expression_faults.specs.declared.fault.FaultKind.TheVariants.{ReservedName, TooManyNames, UnknownName}
use Rattle.lrc_named_expression_faults.specs.Expressions.{AreSome, AreWrongIndices, IsInExpression, IsInIndices, IsWrongUse}
use Rattle.lrc_named_expression_faults.specs.Fault.{fault_at}
use Rattle.lrc_named_statement_faults.specs.Parts.{Part, target, lock_place, counter, value, parts_of_block}
use Rattle.lrc_named_expression_faults.specs.Scope.{Scope, Sense, parameter, declared, private_name, unknown, lock_sizes, sense_of, shared_sizes}

-- whether a name begins with `_`
abbrev pub is_reserved : List ℕ → Bool
is_reserved [] = false
is_reserved (first ∷ others) = first == 95

abbrev pub IsReserved : Named → Fault → Type 0
IsReserved named fault = (is_reserved named.bytes ≡ true) × (fault ≡ fault_at named.at ReservedName)

-- a name that is set without an index does not begin with `_`
abbrev pub IsReservedTarget : Expressions → Named → Fault → Type 0
IsReservedTarget none named fault = IsReserved named fault
IsReservedTarget (more e others) named fault = ⊥

-- what is set: a shared item with as many indices as it has sizes, or a private name without one
abbrev pub IsInTarget : Sense → Named → Expressions → Fault → Type 0
IsInTarget unknown named indices fault = fault ≡ fault_at named.at UnknownName
IsInTarget parameter named indices fault = IsWrongUse named fault
IsInTarget private_name named indices fault = AreSome indices × IsWrongUse named fault
IsInTarget (declared (constant v)) named indices fault = IsWrongUse named fault
IsInTarget (declared (shared item)) named indices fault = AreWrongIndices named indices item.sizes fault
IsInTarget (declared (lock item)) named indices fault = IsWrongUse named fault
IsInTarget (declared (function parameters body)) named indices fault = IsWrongUse named fault

-- what is acquired or released: a lock with as many indices as it has sizes
abbrev pub IsInLock : Sense → Named → Expressions → Fault → Type 0
IsInLock unknown named indices fault = fault ≡ fault_at named.at UnknownName
IsInLock parameter named indices fault = IsWrongUse named fault
IsInLock private_name named indices fault = IsWrongUse named fault
IsInLock (declared (constant v)) named indices fault = IsWrongUse named fault
IsInLock (declared (shared item)) named indices fault = IsWrongUse named fault
IsInLock (declared (lock item)) named indices fault = AreWrongIndices named indices item.sizes fault
IsInLock (declared (function parameters body)) named indices fault = IsWrongUse named fault

-- what counts in a `for`: a private name
abbrev pub IsInCounter : Sense → Named → Fault → Type 0
IsInCounter unknown named fault = IsWrongUse named fault
IsInCounter parameter named fault = IsWrongUse named fault
IsInCounter private_name named fault = ⊥
IsInCounter (declared meaning) named fault = IsWrongUse named fault

abbrev pub IsInPart : Scope → Part → Fault → Type 0
IsInPart scope (target p) fault =
    (IsReservedTarget p.indices p.name fault ⊎ IsInTarget (sense_of scope p.name.bytes) p.name p.indices fault)
    ⊎ IsInIndices scope p.indices (shared_sizes (sense_of scope p.name.bytes)) fault
IsInPart scope (lock_place p) fault =
    IsInLock (sense_of scope p.name.bytes) p.name p.indices fault ⊎ IsInIndices scope p.indices (lock_sizes (sense_of scope p.name.bytes)) fault
IsInPart scope (counter named) fault = IsReserved named fault ⊎ IsInCounter (sense_of scope named.bytes) named fault
IsInPart scope (value e) fault = IsInExpression scope e fault

abbrev pub IsInParts : Scope → List Part → Fault → Type 0
IsInParts scope [] fault = ⊥
IsInParts scope (part ∷ others) fault = IsInPart scope part fault ⊎ IsInParts scope others fault

-- ---- private names

-- the names that are set: without an index, or behind `for`
abbrev pub set_without_index : Named → Expressions → List Named
set_without_index named none = named ∷ []
set_without_index named (more e others) = []

abbrev pub set_in : Part → List Named
set_in (target p) = set_without_index p.name p.indices
set_in (lock_place p) = []
set_in (counter named) = named ∷ []
set_in (value e) = []

abbrev pub set_names : List Part → List Named
set_names [] = []
set_names (part ∷ others) = set_in part ++ set_names others

-- the names that stand in an expression, in the order of the text
abbrev mutual
  pub names_in : Expression → List Named
  names_in (number at n) = []
  names_in (me at) = []
  names_in (nodes at) = []
  names_in (element named indices last) = named ∷ names_in_all indices
  names_in (call named arguments close) = named ∷ names_in_all arguments
  names_in (group opens e close) = names_in e
  names_in (negation at e) = names_in e
  names_in (binary left o right) = names_in left ++ names_in right
  names_in (both left right) = names_in left ++ names_in right
  names_in (either left right) = names_in left ++ names_in right

  pub names_in_all : Expressions → List Named
  names_in_all none = []
  names_in_all (more e others) = names_in e ++ names_in_all others

abbrev pub names_in_part : Part → List Named
names_in_part (target p) = p.name ∷ names_in_all p.indices
names_in_part (lock_place p) = p.name ∷ names_in_all p.indices
names_in_part (counter named) = named ∷ []
names_in_part (value e) = names_in e

abbrev pub names_in_parts : List Part → List Named
names_in_parts [] = []
names_in_parts (part ∷ others) = names_in_part part ++ names_in_parts others

-- how many different names these are
abbrev pub different : List (List ℕ) → ℕ
different [] = 0
different (name ∷ others) = (if is_among others name then 0 else 1) + different others

-- whether a name is private
abbrev pub is_private_sense : Sense → Bool
is_private_sense parameter = false
is_private_sense (declared meaning) = false
is_private_sense private_name = true
is_private_sense unknown = false

abbrev pub private_names : Scope → List Named → List Named
private_names scope names = filter (λ (named : Named). is_private_sense (sense_of scope named.bytes)) names

-- one of these names is the 33rd different one
abbrev pub IsOneTooMany : List Named → Fault → Type 0
IsOneTooMany names fault = (front : List Named) × (named : Named) × (back : List Named)
    × ((names ≡ front ++ named ∷ back) × (is_among (bytes_of front) named.bytes ≡ false) × (different (bytes_of front) ≡ 32))
    × (fault ≡ fault_at named.at TooManyNames)

-- the scope of the statements of a text in which so much is declared
abbrev pub statement_scope : List Declared → List Part → Scope
statement_scope table parts = record { declared = table; known = []; assigned = bytes_of (set_names parts); constant = false }

-- the faults of statements: those of their parts, and that of the 33rd private name
abbrev pub IsInStatements : List Declared → Block → Fault → Type 0
IsInStatements table statements fault =
    IsInParts (statement_scope table (parts_of_block statements)) (parts_of_block statements) fault
    ⊎ IsOneTooMany (private_names (statement_scope table (parts_of_block statements)) (names_in_parts (parts_of_block statements))) fault
