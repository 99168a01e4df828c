-- The sizes of an array, without the first, and the places of its elements by rows: the last index runs fastest.
use Rattle.std.specs.Prelude.{ℕ, ◌*◌, ◌/◌, ◌%◌, ◌==◌, ◌&&◌, Bool, List, [], ◌∷◌, map, max, nat_le}
use Rattle.std.specs.Str.Parse.{digits_value}
use Rattle.lrc_labels.specs.Name.{is_numeral}

-- a number of 1 to 65,536
abbrev pub is_size : List ℕ → Bool
is_size field = is_numeral field && (nat_le 1 (digits_value 10 field) && nat_le (digits_value 10 field) 65536)

abbrev pub sizes_of : List (List ℕ) → List ℕ
sizes_of fields = map (digits_value 10) fields

abbrev pub product : List ℕ → ℕ
product [] = 1
product (size ∷ sizes) = size * product sizes

-- whether so many elements are whole rows of these sizes
abbrev pub fills : ℕ → List ℕ → Bool
fills count sizes = count % product sizes == 0

-- how many whole rows of these sizes lie before a place; a size of 0, which no label has, counts as 1
abbrev pub rows : ℕ → List ℕ → ℕ
rows place [] = place
rows place (size ∷ sizes) = rows place sizes / max size 1

-- the indices of a place in a row of these sizes
abbrev pub inner : ℕ → List ℕ → List ℕ
inner place [] = []
inner place (size ∷ sizes) = rows place sizes % max size 1 ∷ inner place sizes

-- the indices of a place: which row of these sizes has it, and where it lies there
abbrev pub indices : ℕ → List ℕ → List ℕ
indices place sizes = rows place sizes ∷ inner place sizes
