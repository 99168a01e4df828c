-- How far an expression still has to be gone into.
use Rattle.std.proofs.Common.{◌≡◌, ℕ, ◌+◌, ◌*◌, ◌<◌, List, Some, arith}
use Rattle.lrc_named_tree.specs.Tree.{Named, Expression}
use Rattle.lrc_named_names.specs.Names.{Declared, function, meaning_at}
use Rattle.lrc_named_constants.proofs.Measure.{size, bodies, body_within, deeper}

-- so many steps in an expression that calls what is declared before a place
abbrev pub weight : List Declared → (below steps : ℕ) → ℕ
weight declared below steps = below * (1 + (6 * bodies declared + 5)) + steps

-- the body of a function is gone into in fewer steps than any call of it
pub lighter : (declared : List Declared) (place below steps : ℕ) (parameters : List Named) (body : Expression)
    → meaning_at declared place ≡ Some (function parameters body) → place < below
    → weight declared place (6 * size body + 5) < weight declared below (1 + steps)
lighter declared place below steps parameters body is before =
    let small = body_within declared place parameters body is in
    deeper place below (6 * bodies declared + 5) (6 * size body + 5) steps before (omega (arith, small))
