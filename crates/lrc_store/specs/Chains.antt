-- Lists that run through an arena: each entry is linked to the entry before it that has the same key.
use Rattle.std.specs.Prelude.{ℕ, ◌+◌, Bool, Option, Some, None, List, [], ◌∷◌, if◌then◌else◌}
use Rattle.std.specs.Option.{option_or}

-- the place of the last element that passes, where the first stands at this place
abbrev pub last_from : {X : Type 0} → (X → Bool) → ℕ → List X → Option ℕ
last_from test start [] = None
last_from test start (x ∷ xs) = option_or (last_from test (start + 1) xs) (if test x then Some start else None)

-- the place of the last element that passes
abbrev pub last_at : {X : Type 0} → (X → Bool) → List X → Option ℕ
last_at test xs = last_from test 0 xs

-- the keys of an arena's entries in the order of adding, the number of keys that there can be, and the room that there is
pub record ChainsRecord : Type 0 where
  pub lists : ℕ
  pub keys : List ℕ
  pub room : ℕ
