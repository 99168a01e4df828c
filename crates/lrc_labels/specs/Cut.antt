-- Texts cut into pieces.
use Rattle.std.specs.Prelude.{ℕ, ◌==◌, ◌||◌, Bool, List, [], ◌∷◌, if◌then◌else◌}
use Rattle.lrc_labels.specs.declared.cut.Divider.{Divider}
use Rattle.lrc_labels.specs.declared.cut.Divider.TheVariants.{LineFeed, Blank, Hash}

-- whether a byte is a divider: a line feed, a blank, which is a space, a tab or a carriage return, or `#`
abbrev pub divides : Divider → ℕ → Bool
divides LineFeed byte = byte == 10
divides Blank byte = (byte == 32) || (byte == 9) || (byte == 13)
divides Hash byte = byte == 35

-- the pieces with one byte more in front of the first
abbrev pub in_front : ℕ → List (List ℕ) → List (List ℕ)
in_front byte [] = (byte ∷ []) ∷ []
in_front byte (piece ∷ others) = (byte ∷ piece) ∷ others

-- what stands between the dividers of a text, in order; a text without one is one piece
abbrev pub cut : (ℕ → Bool) → List ℕ → List (List ℕ)
cut is_divider [] = [] ∷ []
cut is_divider (byte ∷ rest) = if is_divider byte then [] ∷ cut is_divider rest else in_front byte (cut is_divider rest)
