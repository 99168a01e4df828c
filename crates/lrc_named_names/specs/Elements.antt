-- How many words or locks an item has.
use Rattle.std.specs.Prelude.{ℕ, ◌*◌, List, [], ◌∷◌}

-- how many elements an array of these sizes has; a word or lock alone is one
abbrev pub elements : List ℕ → ℕ
elements [] = 1
elements (size ∷ sizes) = size * elements sizes
