-- The faults of declarations, by what is declared before them.
use Rattle.std.specs.Prelude.{◌≡◌, ◌+◌, ◌<◌, ◌≤◌, ◌⊎◌, ◌||◌, ℕ, true, false, Option, IsSome, is_some, List, [], ◌∷◌, ◌++◌, map}
use Rattle.lrc_named_tree.specs.Tree.{Named, Expression, Expressions, none, more, Place, Declaration, node_count, constant, shared, lock, function}
use Rattle.lrc_named_tree.specs.Ends.{first_of}
use Rattle.lrc_named_names.specs.Elements.{elements}
use Rattle.lrc_named_names.specs.Names.{Declared, meaning_of}
use Rattle.lrc_named_names.specs.Names as names
use Rattle.lrc_named_constants.specs.declared.constancy.Constancy.TheVariants.{Value, Varies}
use Rattle.lrc_named_constants.specs.Constant.{IsConstancy, Known}
use Rattle.lrc_named_constants.specs.Layout.{HaveSizes, as_meaning, locks_in, words_in}
use Rattle.lrc_named_constants.specs.Well.{is_among}
use Rattle.lrc_named_expression_faults.specs.declared.fault.Fault.{Fault}
use Rattle.lrc_named_expression_faults.specs.declared.fault.FaultKind.TheVariants.{DeclaredTwice, OverLimit}
use Rattle.lrc_named_expression_faults.specs.declared.fault.Limit.{Limit}
use Rattle.lrc_named_expression_faults.specs.declared.fault.Limit.TheVariants as limits
use Rattle.lrc_named_expression_faults.specs.Expressions.{IsInExpression}
use Rattle.lrc_named_expression_faults.specs.Extent.{Weighs}
use Rattle.lrc_named_expression_faults.specs.Fault.{IsNone, fault_at}
use Rattle.lrc_named_expression_faults.specs.Scope.{Scope}
use Rattle.lrc_named_statement_faults.specs.Statements.{IsReserved}

-- where a constant has to stand, and in the body of a function, whose parameters may be anything
abbrev pub constant_scope : List Declared → Scope
constant_scope table = record { declared = table; known = []; assigned = []; constant = true }

abbrev pub varying : List Named → List Known
varying parameters = map (λ (p : Named). record { name = p.bytes; constancy = Varies }) parameters

abbrev pub body_scope : List Declared → List Named → Scope
body_scope table parameters = record { declared = table; known = varying parameters; assigned = []; constant = false }

-- ---- names

-- a name that is declared, and stands among these already or in the table; or begins with `_`
abbrev pub IsInName : List Declared → List (List ℕ) → Named → Fault → Type 0
IsInName table others named fault =
    (((is_among others named.bytes || is_some (meaning_of table named.bytes)) ≡ true) × (fault ≡ fault_at named.at DeclaredTwice)) ⊎ IsReserved named fault

-- parameters, in front of which these names stand
abbrev pub IsInParameters : List Declared → List (List ℕ) → List Named → Fault → Type 0
IsInParameters table before [] fault = ⊥
IsInParameters table before (named ∷ others) fault = IsInName table before named fault ⊎ IsInParameters table (before ++ named.bytes ∷ []) others fault

-- ---- constants, sizes and bodies

-- an expression of this scope without a fault
abbrev pub IsClean : Scope → Expression → Type 0
IsClean scope e = IsNone (λ fault. IsInExpression scope e fault)

-- a constant has a value
abbrev pub IsInConstant : Scope → Expression → Fault → Type 0
IsInConstant scope e fault =
    IsInExpression scope e fault
    ⊎ ((IsClean scope e × ((v : ℕ) → IsConstancy scope.declared scope.known e (Value v) → ⊥)) × (fault ≡ fault_at (first_of e) (OverLimit limits.Division)))

-- a size has a value from 1 to 65,536
abbrev pub IsInSize : Scope → Expression → Fault → Type 0
IsInSize scope e fault =
    IsInExpression scope e fault
    ⊎ ((IsClean scope e × ((v : ℕ) → IsConstancy scope.declared scope.known e (Value v) → 1 ≤ v → v ≤ 65536 → ⊥))
    × (fault ≡ fault_at (first_of e) (OverLimit limits.Size)))

abbrev pub IsInSizes : Scope → Expressions → Fault → Type 0
IsInSizes scope none fault = ⊥
IsInSizes scope (more e others) fault = IsInSize scope e fault ⊎ IsInSizes scope others fault

-- a body, with those that it calls, has at most 256 operators and calls
abbrev pub IsInBody : Scope → Expression → Fault → Type 0
IsInBody scope e fault =
    IsInExpression scope e fault
    ⊎ ((IsClean scope e × ((n : ℕ) × Weighs scope.declared e n × (256 < n))) × (fault ≡ fault_at (first_of e) (OverLimit limits.Body)))

-- ---- items

-- shared items, of which there are at most so many words; or locks
pub data Kind : Type 0 where
  words : Kind
  locks : Kind

abbrev pub used : Kind → List Declared → ℕ
used words table = words_in table
used locks table = locks_in table

abbrev pub most : Kind → ℕ
most words = 65536
most locks = 64

abbrev pub limit_of : Kind → Limit
limit_of words = limits.Words
limit_of locks = limits.Locks

abbrev pub with_item : Kind → List Declared → Place → List ℕ → List Declared
with_item words table p sizes = table ++ as_meaning p.name (names.shared (record { first = words_in table; sizes = sizes })) ∷ []
with_item locks table p sizes = table ++ as_meaning p.name (names.lock (record { first = locks_in table; sizes = sizes })) ∷ []

-- there are sizes, with which there would be too many words or locks
abbrev pub IsTooLarge : Kind → List Declared → Place → Type 0
IsTooLarge kind table p = IsNone (λ fault. IsInSizes (constant_scope table) p.indices fault) × ((sizes : List ℕ) × HaveSizes table p.indices sizes × (most kind < used kind table + elements sizes))

abbrev pub IsInItem : Kind → List Declared → Place → Fault → Type 0
IsInItem kind table p fault =
    (IsInName table [] p.name fault ⊎ IsInSizes (constant_scope table) p.indices fault) ⊎ (IsTooLarge kind table p × (fault ≡ fault_at p.name.at (OverLimit (limit_of kind))))

-- an item has a fault, or one behind it, where it has none and is declared
abbrev pub IsInItems : Kind → List Declared → List Place → Fault → Type 0
IsInItems kind table [] fault = ⊥
IsInItems kind table (p ∷ others) fault =
    IsInItem kind table p fault
    ⊎ (IsNone (λ f. IsInItem kind table p f) × ((sizes : List ℕ) × HaveSizes table p.indices sizes × IsInItems kind (with_item kind table p sizes) others fault))

-- ---- declarations

-- `counted` is the number of nodes that stands in front, if one does
abbrev pub IsInDeclaration : Option ℕ → List Declared → Declaration → Fault → Type 0
IsInDeclaration counted table (node_count at n) fault =
    (IsSome counted × (fault ≡ fault_at at DeclaredTwice)) ⊎ (((1 ≤ n) × (n ≤ 16) → ⊥) × (fault ≡ fault_at (at + 1) (OverLimit limits.NodeCount)))
IsInDeclaration counted table (constant at named value) fault = IsInName table [] named fault ⊎ IsInConstant (constant_scope table) value fault
IsInDeclaration counted table (shared at items) fault = IsInItems words table items fault
IsInDeclaration counted table (lock at items) fault = IsInItems locks table items fault
IsInDeclaration counted table (function at named parameters body) fault =
    (IsInName table [] named fault ⊎ IsInParameters table (named.bytes ∷ []) parameters fault) ⊎ IsInBody (body_scope table parameters) body fault
