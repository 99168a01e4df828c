-- Phrases in lines that are no longer than a given room.
use Rattle.std.specs.Prelude.{ℕ, zero, suc, ◌&&◌, List, [], ◌∷◌, ◌++◌, codes, drop, if◌then◌else◌, length, map, nat_le, take}
use Rattle.std.specs.List.{flat_map}

-- a sign as a terminal shows it: what is not printable ASCII as a question mark
abbrev pub plain_sign : ℕ → ℕ
plain_sign sign = if nat_le 32 sign && nat_le sign 126 then sign else 63

abbrev pub plain_signs : List ℕ → List ℕ
plain_signs words = map plain_sign words

-- words, cut behind each so many signs: all of them, in `most` pieces at most
abbrev pub cut_words : (most room : ℕ) → List ℕ → List (List ℕ)
cut_words zero room words = []
cut_words (suc most) room [] = []
cut_words (suc most) room (sign ∷ words) = plain_signs (take room (sign ∷ words)) ∷ cut_words most room (drop room (sign ∷ words))

-- the pieces of a phrase: one, unless it is longer than a line
abbrev pub pieces_of : (room : ℕ) → List ℕ → List (List ℕ)
pieces_of room phrase = cut_words (length phrase) room phrase

-- what stands between a line of so many signs and the piece that joins it
abbrev pub gap : ℕ → List ℕ
gap zero = []
gap (suc used) = codes "  "

abbrev pub joined_line : List ℕ → List ℕ → List ℕ
joined_line line piece = line ++ gap (length line) ++ piece

-- a line, and pieces behind it: each joins the line before it where that has room, and else begins one
abbrev pub filled : (room : ℕ) → (line : List ℕ) → List (List ℕ) → List (List ℕ)
filled room line [] = line ∷ []
filled room line (piece ∷ more) =
    if nat_le (length (joined_line line piece)) room then filled room (joined_line line piece) more else line ∷ filled room piece more

-- phrases in lines
abbrev pub paragraph : (room : ℕ) → List (List ℕ) → List (List ℕ)
paragraph room phrases = filled room [] (flat_map (pieces_of room) phrases)

-- the first line behind one margin, the others behind another
abbrev pub headed : (first rest : List ℕ) → List (List ℕ) → List (List ℕ)
headed first rest [] = []
headed first rest (line ∷ lines) = (first ++ line) ∷ map (λ l. rest ++ l) lines

-- the text of lines
abbrev pub lines_text : List (List ℕ) → List ℕ
lines_text lines = flat_map (λ line. line ++ codes "\n") lines
