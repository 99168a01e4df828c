-- How much room there is, by how many columns a picture has.
use Rattle.std.specs.Prelude.{ℕ, ◌/◌, max, min}

-- how many letters fit beside each other in a box
abbrev pub room_of : (columns : ℕ) → ℕ
room_of columns = max 20 (min 36 (175 / max columns 1))

-- how many pixels there are between two columns
abbrev pub gap_of : (columns : ℕ) → ℕ
gap_of columns = max 56 (min 120 (460 / max columns 1))
