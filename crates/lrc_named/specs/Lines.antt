-- The lines of tokens, and where they stand.
use Rattle.std.specs.Prelude.{ℕ, ◌-◌, List, length, map, slice_index}
use Rattle.lrc_named_tokens.specs.Token.{Located}

-- the line of each token
abbrev pub lines_of : List Located → List ℕ
lines_of tokens = map (λ (found : Located). found.place.line) tokens

-- how many bytes of the text stand before each token
abbrev pub offsets_of : List Located → List ℕ
offsets_of tokens = map (λ (found : Located). found.place.offset) tokens

-- the line of the token of this number, counted from 0
abbrev pub line_at : List Located → ℕ → ℕ
line_at tokens at = slice_index (lines_of tokens) at

-- the line of the last token, which is the text's end
abbrev pub last_of : (lines : List ℕ) → ℕ
last_of lines = slice_index lines (length lines - 1)
