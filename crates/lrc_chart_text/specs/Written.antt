-- Lines as they are written, a piece behind the other.
use Rattle.std.specs.Prelude.{ℕ, ◌+◌, Bool, List, [], ◌∷◌, ◌++◌, if◌then◌else◌, length, nat_le}
use Rattle.lrc_chart_text.specs.Lines.{gap}

-- whether a piece of so many signs joins a line of so many
abbrev pub piece_joins : (room used size : ℕ) → Bool
piece_joins room used size = nat_le (used + length (gap used) + size) room

-- how many signs the line has then
abbrev pub used_behind : (room used size : ℕ) → ℕ
used_behind room used size = if piece_joins room used size then used + length (gap used) + size else size

-- what is written for it, where `break` stands between lines
abbrev pub piece_text : (room : ℕ) → (break : List ℕ) → (used : ℕ) → List ℕ → List ℕ
piece_text room break used piece = (if piece_joins room used (length piece) then gap used else break) ++ piece

abbrev pub written : (room : ℕ) → (break : List ℕ) → (used : ℕ) → List (List ℕ) → List ℕ
written room break used [] = []
written room break used (piece ∷ more) =
    piece_text room break used piece ++ written room break (used_behind room used (length piece)) more
