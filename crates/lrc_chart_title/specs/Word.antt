-- A word of a command line, as a shell reads it.
use Rattle.std.specs.Prelude.{ℕ, ◌==◌, ◌&&◌, ◌||◌, Bool, true, false, List, [], ◌∷◌, ◌++◌, codes, if◌then◌else◌}
use Rattle.std.specs.Char.{is_ascii_alphanumeric}
use Rattle.std.specs.List.{flat_map, list_all, list_any}

-- a byte that stands for itself wherever it stands in a word of a shell: a letter, a digit, or one of these signs
abbrev pub is_plain : ℕ → Bool
is_plain byte = is_ascii_alphanumeric byte || list_any (λ sign. sign == byte) (codes "@%+=:,./-_")

-- a word that a shell reads as it is written
abbrev pub needs_no_quotes : List ℕ → Bool
needs_no_quotes [] = false
needs_no_quotes (first ∷ rest) = list_all is_plain (first ∷ rest)

-- A byte between single quotes: there every byte stands for itself, but a single quote ends them. So one is written between two quoted
-- parts, behind a backslash.
abbrev pub quoted_byte : ℕ → List ℕ
quoted_byte byte = if byte == 39 then codes "'\\''" else byte ∷ []

abbrev pub quoted : List ℕ → List ℕ
quoted word = codes "'" ++ flat_map quoted_byte word ++ codes "'"

-- a word that would be read as an option, if it stood where one may stand; `-` alone is a file
abbrev pub is_dashed : List ℕ → Bool
is_dashed (first ∷ second ∷ rest) = first == 45
is_dashed _ = false

-- a word, between single quotes where it needs them
abbrev pub shell_word : List ℕ → List ℕ
shell_word word = if needs_no_quotes word then word else quoted word

-- an option and the word that is its value: behind `=` where it would be read as an option of its own
abbrev pub value_text : List ℕ → List ℕ → List ℕ
value_text option word = option ++ (if is_dashed word then codes "=" else codes " ") ++ shell_word word

-- a file, in front of all options, or, where it would be read as one, behind them all
abbrev pub front_text : List ℕ → List ℕ
front_text file = if is_dashed file then [] else codes " " ++ shell_word file

abbrev pub behind_text : List ℕ → List ℕ
behind_text file = if is_dashed file then codes " -- " ++ shell_word file else []
