-- The source of an expression of a named program: its tokens as they are spelled, where something stands between two of them one blank.
use Rattle.std.specs.Prelude.{ℕ, ◌+◌, ◌-◌, ◌==◌, ◌||◌, Bool, List, [], ◌++◌, codes, drop, if◌then◌else◌, length, nat_le, nat_lt, slice_index, take}
use Rattle.std.specs.List.{before_first, flat_map, range_with_len}

-- a blank, a tab, a line feed, a carriage return, and the sign that begins a comment: no token has one, and behind a token that something
-- stands behind there is one
abbrev pub is_gap : (byte : ℕ) → Bool
is_gap byte = (byte == 32) || (byte == 9) || (byte == 10) || (byte == 13) || (byte == 35)

-- the bytes from a token of this number on, up to the next one; `offsets` has for each token how many bytes of the text stand before it
abbrev pub bytes_from : (text offsets : List ℕ) → (token : ℕ) → List ℕ
bytes_from text offsets token = take (slice_index offsets (token + 1) - slice_index offsets token) (drop (slice_index offsets token) text)

-- the token as it is spelled, where these bytes stand from it on up to the next one
abbrev pub spelled : (bytes : List ℕ) → List ℕ
spelled bytes = before_first is_gap bytes

-- one blank, where something stands between it and the next one
abbrev pub gap : (bytes : List ℕ) → List ℕ
gap bytes = if nat_lt (length (spelled bytes)) (length bytes) then codes " " else []

-- both
abbrev pub with_gap : (bytes : List ℕ) → List ℕ
with_gap bytes = spelled bytes ++ gap bytes

-- the tokens from the first to the last one
abbrev pub source : (text offsets : List ℕ) → (first last : ℕ) → List ℕ
source text offsets first last =
    flat_map (λ token. with_gap (bytes_from text offsets token)) (range_with_len first (last - first)) ++ spelled (bytes_from text offsets last)

-- at most 60 bytes of it, then `..`
abbrev pub shortened : List ℕ → List ℕ
shortened bytes = if nat_le (length bytes) 60 then bytes else take 60 bytes ++ codes ".."

-- between back quotes
abbrev pub quoted : List ℕ → List ℕ
quoted bytes = codes "`" ++ shortened bytes ++ codes "`"
