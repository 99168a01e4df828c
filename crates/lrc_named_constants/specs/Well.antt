-- Expressions in which names are used as what they are.
use Rattle.std.specs.Prelude.{◌≡◌, ◌+◌, ◌<◌, ℕ, Bool, true, false, Option, Some, None, List, length, map}
use Rattle.std.specs.List.{list_any}
use Rattle.std.specs.Str.{bytes_eq}
use Rattle.lrc_named_tree.specs.Tree.{Named, Expression, Expressions, number, me, nodes, element, call, group, negation, binary, both, either, none, more}
use Rattle.lrc_named_names.specs.Names.{Meaning, constant, shared, lock, function, Declared, place_of, meaning_at, meaning_of}

-- what has a value of its own: a private name, a constant and a shared item, but no lock and no function
abbrev pub HasValue : Option Meaning → Type 0
HasValue None = Unit {0}
HasValue (Some (constant n)) = Unit {0}
HasValue (Some (shared item)) = Unit {0}
HasValue (Some (lock item)) = ⊥
HasValue (Some (function parameters body)) = ⊥

-- whether a name is one of these
abbrev pub is_among : List (List ℕ) → List ℕ → Bool
is_among names name = list_any (λ (n : List ℕ). bytes_eq n name) names

-- what a name that is no parameter has to mean
abbrev pub ValueUnless : Bool → Option Meaning → Type 0
ValueUnless true meaning = Unit {0}
ValueUnless false meaning = HasValue meaning

-- a function with so many parameters
abbrev pub Takes : Option Meaning → ℕ → Type 0
Takes None n = ⊥
Takes (Some (constant v)) n = ⊥
Takes (Some (shared item)) n = ⊥
Takes (Some (lock item)) n = ⊥
Takes (Some (function parameters body)) n = n ≡ length parameters

-- how many expressions these are
abbrev pub count : Expressions → ℕ
count none = 0
count (more e others) = 1 + count others

-- in the expression each name without arguments is one of these parameters or has a value, and each with arguments is a function
-- among the first so many of what is declared, which takes so many
abbrev mutual
  pub IsWell : List Declared → (parameters : List (List ℕ)) → (below : ℕ) → Expression → Type 0
  IsWell declared parameters below (number at n) = Unit {0}
  IsWell declared parameters below (me at) = Unit {0}
  IsWell declared parameters below (nodes at) = Unit {0}
  IsWell declared parameters below (element named indices last) =
      ValueUnless (is_among parameters named.bytes) (meaning_of declared named.bytes) × AreWell declared parameters below indices
  IsWell declared parameters below (call named arguments close) =
      (place_of declared named.bytes < below) × Takes (meaning_of declared named.bytes) (count arguments) × AreWell declared parameters below arguments
  IsWell declared parameters below (group opens e close) = IsWell declared parameters below e
  IsWell declared parameters below (negation at e) = IsWell declared parameters below e
  IsWell declared parameters below (binary left o right) = IsWell declared parameters below left × IsWell declared parameters below right
  IsWell declared parameters below (both left right) = IsWell declared parameters below left × IsWell declared parameters below right
  IsWell declared parameters below (either left right) = IsWell declared parameters below left × IsWell declared parameters below right

  pub AreWell : List Declared → (parameters : List (List ℕ)) → (below : ℕ) → Expressions → Type 0
  AreWell declared parameters below none = Unit {0}
  AreWell declared parameters below (more e others) = IsWell declared parameters below e × AreWell declared parameters below others

-- the names of these
abbrev pub bytes_of : List Named → List (List ℕ)
bytes_of names = map (λ (named : Named). named.bytes) names

-- the body of each function is well with its parameters, and calls functions that were declared before
abbrev pub IsSound : List Declared → Type 0
IsSound declared = (place : ℕ) (parameters : List Named) (body : Expression) →
    meaning_at declared place ≡ Some (function parameters body) → IsWell declared (bytes_of parameters) place body
