-- How far an expression still has to be gone into.
use Rattle.std.proofs.Common.{◌≡◌, ℕ, zero, suc, ◌+◌, ◌*◌, ◌<◌, ◌≤◌, List, [], ◌∷◌, Some, arith, ap}
use Rattle.std.proofs.Math.Nat.{mul-le-mul_left}
use Rattle.lrc_named_tree.specs.Tree.{Expression, Expressions, number, me, nodes, element, call, group, negation, binary, both, either, none, more}
use Rattle.lrc_named_names.specs.Names.{Declared, Meaning, constant, shared, lock, function, meaning_at}

-- how large an expression is, and how large these are
abbrev mutual
  pub size : Expression → ℕ
  size (number at n) = 1
  size (me at) = 1
  size (nodes at) = 1
  size (element named indices last) = 1 + sizes indices
  size (call named arguments close) = 2 + sizes arguments
  size (group opens e close) = 1 + size e
  size (negation at e) = 1 + size e
  size (binary left o right) = 1 + (size left + size right)
  size (both left right) = 1 + (size left + size right)
  size (either left right) = 1 + (size left + size right)

  pub sizes : Expressions → ℕ
  sizes none = 0
  sizes (more e others) = 1 + (size e + sizes others)

abbrev pub size_of_body : Meaning → ℕ
size_of_body (constant n) = 0
size_of_body (shared item) = 0
size_of_body (lock item) = 0
size_of_body (function parameters body) = size body

-- how large the bodies of all functions are
abbrev pub bodies : List Declared → ℕ
bodies [] = 0
bodies (d ∷ others) = size_of_body d.meaning + bodies others

pub body_within : (declared : List Declared) (place : ℕ) (parameters : _) (body : Expression)
    → meaning_at declared place ≡ Some (function parameters body) → size body ≤ bodies declared
body_within [] place parameters body is = absurd (cc)
body_within (d ∷ others) zero parameters body is =
    let same : d.meaning ≡ function parameters body = cc in
    let e = ap size_of_body same in omega (arith, e)
body_within (d ∷ others) (suc place) parameters body is =
    let h = body_within others place parameters body is in omega (arith, h)

-- a function at an earlier place, and whatever its body's size is
pub deeper : (place below largest body rest : ℕ) → place < below → body ≤ largest → place * (1 + largest) + body < below * (1 + largest) + (1 + rest)
deeper place below largest body rest lt within = omega (arith, mul-le-mul_left (1 + largest) lt)
