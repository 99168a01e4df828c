-- A line of a text, with a caret below one of its columns.
use Rattle.std.specs.Prelude.{ℕ, ◌-◌, ◌==◌, ◌||◌, List, [], ◌∷◌, ◌++◌, codes, if◌then◌else◌, length, map, nat_lt, replicate, slice_index, take}

-- a line without one carriage return at its end
abbrev pub without_return : List ℕ → List ℕ
without_return line = if slice_index line (length line - 1) == 13 then take (length line - 1) line else line

-- a byte as it is shown: a tab as a blank, another byte below 32 and one above 126 as `?`
abbrev pub shown_byte : ℕ → ℕ
shown_byte byte = if byte == 9 then 32 else (if nat_lt byte 32 || nat_lt 126 byte then 63 else byte)

-- what stands behind the first 200 bytes of a line
abbrev pub more_text : List ℕ → List ℕ
more_text line = if nat_lt 200 (length line) then codes "..\n" else codes "\n"

abbrev pub line_text : List ℕ → List ℕ
line_text line = codes "  " ++ map shown_byte (take 200 line) ++ more_text line

-- the caret below a column, counted from 1
abbrev pub caret_text : ℕ → List ℕ
caret_text column = if nat_lt 200 column then [] else codes "  " ++ replicate (column - 1) 32 ++ codes "^\n"

-- a line that has bytes, and the caret below a column of it
abbrev pub excerpt_text : List ℕ → ℕ → List ℕ
excerpt_text [] column = []
excerpt_text (byte ∷ rest) column = line_text (byte ∷ rest) ++ caret_text column
