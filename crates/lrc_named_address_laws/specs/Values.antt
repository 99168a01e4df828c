-- The value of an expression of a core.
use Rattle.std.specs.Prelude.{◌≡◌, ℕ, Option, Some, List, [], ◌∷◌}
use Rattle.lrc_exec.specs.Meaning.{combined}
use Rattle.lrc_named_core.specs.Tree.{Private, Expression, number, private, me, nodes, binary}

-- the value on node `here` of `count` nodes, where private names have these values; none is a division by zero
abbrev pub value_of : (Private → ℕ) → (here count : ℕ) → Expression → Option ℕ
value_of names here count (number n) = Some n
value_of names here count (private name) = Some (names name)
value_of names here count me = Some here
value_of names here count nodes = Some count
value_of names here count (binary left o right) = combined o (value_of names here count left) (value_of names here count right)

-- each of the expressions has its value
pub data HaveValues (names : Private → ℕ) (here count : ℕ) : List Expression → List ℕ → Type 0 where
  no_value : HaveValues names here count [] []
  one_value : {e : Expression} {es : List Expression} {v : ℕ} {vs : List ℕ} →
      value_of names here count e ≡ Some v → HaveValues names here count es vs → HaveValues names here count (e ∷ es) (v ∷ vs)
