-- The elements of an array, by rows.
use Rattle.std.specs.Prelude.{◌+◌, ◌*◌, ◌<◌, ◌≤◌, ◌⊎◌, ℕ, List, [], ◌∷◌}
use Rattle.lrc_named_names.specs.Elements.{elements}

-- how far the element with these indices lies behind the first, in an array of these sizes: the last index runs fastest
abbrev pub element_at : (sizes indices : List ℕ) → ℕ
element_at [] indices = 0
element_at (size ∷ sizes) [] = 0
element_at (size ∷ sizes) (i ∷ indices) = i * elements sizes + element_at sizes indices

-- there is one index for each size, and each is below its size
abbrev pub AreWithin : (sizes indices : List ℕ) → Type 0
AreWithin [] [] = Unit {0}
AreWithin [] (i ∷ indices) = ⊥
AreWithin (size ∷ sizes) [] = ⊥
AreWithin (size ∷ sizes) (i ∷ indices) = (i < size) × AreWithin sizes indices

-- some index is not below its size
abbrev pub IsBeyond : (sizes indices : List ℕ) → Type 0
IsBeyond [] indices = ⊥
IsBeyond (size ∷ sizes) [] = ⊥
IsBeyond (size ∷ sizes) (i ∷ indices) = (size ≤ i) ⊎ IsBeyond sizes indices
