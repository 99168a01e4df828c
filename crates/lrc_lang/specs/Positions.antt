-- Where what stands in a text begins: its line, its column and its offset.
use Rattle.std.specs.Prelude.{◌≡◌, ◌==◌, ◌≤◌, ℕ, ◌+◌, ◌-◌, List, [], ◌∷◌, length, take, fold, if◌then◌else◌}
use Rattle.lrc_lang.specs.Token.{number, name, keyword, sign, finish, Lexeme, token, bad_byte, bad_number, Placed}
use Rattle.lrc_lang.specs.Lexemes.{at, Lexes, passes_blank, passes_line_feed, passes_comment, takes_number, takes_keyword, takes_name, takes_sign}
use Rattle.lrc_lang.specs.Lexemes.{stops_at_number, stops_at_byte, stops_at_end, Follows}

-- Where each of what stands in a text begins, in order. A place in a text is what stands from there to the text's end.
abbrev pub places_in : {line : ℕ} {text : List ℕ} {all : List Placed} → Lexes line text all → List (List ℕ)
places_in (passes_blank is inside) = places_in inside
places_in (passes_line_feed is inside) = places_in inside
places_in (passes_comment is span inside) = places_in inside
places_in (takes_number {text = text} digits is inside) = text ∷ places_in inside
places_in (takes_keyword {text = text} word inside) = text ∷ places_in inside
places_in (takes_name {text = text} word other inside) = text ∷ places_in inside
places_in (takes_sign {text = text} is inside) = text ∷ places_in inside
places_in (stops_at_number {text = text} digits bad) = text ∷ []
places_in (stops_at_byte {byte = byte} {rest = rest} nothing) = (byte ∷ rest) ∷ []
places_in stops_at_end = [] ∷ []

-- how many bytes stand behind the last line feed, once this byte has come too, and of all bytes
abbrev pub with_byte : ℕ → ℕ → ℕ
with_byte count byte = if byte == 10 then 0 else count + 1

abbrev pub behind_line_feed : List ℕ → ℕ
behind_line_feed = fold with_byte 0

-- what stands in a text, and where its first byte is: on which line and in which column, both counted from 1, and how many
-- bytes of the text stand before it
pub record Located : Type 0 where
  pub line : ℕ
  pub column : ℕ
  pub offset : ℕ
  pub lexeme : Lexeme

-- how many bytes of a text stand before a place
abbrev pub offset_of : List ℕ → List ℕ → ℕ
offset_of text place = length text - length place

-- in which column of a text a place is
abbrev pub column_of : List ℕ → List ℕ → ℕ
column_of text place = behind_line_feed (take (offset_of text place) text) + 1

abbrev pub located_at : List ℕ → Placed → List ℕ → Located
located_at text found place = record { line = found.line; column = column_of text place; offset = offset_of text place; lexeme = found.lexeme }

-- what stands at these places of a text
abbrev pub located : List ℕ → List Placed → List (List ℕ) → List Located
located text (found ∷ others) (place ∷ places) = located_at text found place ∷ located text others places
located text _ _ = []

-- This is what stands in the text, and where.
pub record HasLocated (text : List ℕ) (all : List Located) : Type 0 where
  pub lexemes : List Placed
  pub lexed : Lexes 1 text lexemes
  pub each : all ≡ located text lexemes (places_in lexed)

-- ---- one step of the lexer

-- the places of what follows a lexeme
abbrev pub places_behind : (found : Lexeme) (line : ℕ) (rest : List ℕ) (more : List Placed) → Follows found line rest more → List (List ℕ)
places_behind (token (number value)) line rest more inside = places_in inside
places_behind (token (name word)) line rest more inside = places_in inside
places_behind (token (keyword which)) line rest more inside = places_in inside
places_behind (token (sign mark)) line rest more inside = places_in inside
places_behind (token finish) line rest more none = []
places_behind bad_byte line rest more none = []
places_behind bad_number line rest more none = []

-- what stands in the rest, which begins on behind, stands in the text too, which begins on line, at the same places
abbrev pub PassesTo : ℕ → List ℕ → ℕ → List ℕ → Type 0
PassesTo line text behind rest =
    (all : List Placed) (inside : Lexes behind rest all) → (whole : Lexes line text all) × (places_in whole ≡ places_in inside)

-- on any line, found stands at the front of the text, and then what follows in the rest
abbrev pub TakesHere : List ℕ → Lexeme → List ℕ → Type 0
TakesHere text found rest =
    (line : ℕ) (more : List Placed) (follows : Follows found line rest more)
    → (whole : Lexes line text (at line found ∷ more)) × (places_in whole ≡ text ∷ places_behind found line rest more follows)

-- Found stands next in a text that begins on line, this many bytes before the text's end, and behind it stands rest, which
-- begins on found's line.
pub record NextAt (line : ℕ) (text : List ℕ) (found : Placed) (left : ℕ) (rest : List ℕ) : Type 0 where
  pub place : List ℕ
  pub is_left : length place ≡ left
  pub within : left ≤ length text
  pub behind : length rest ≤ left
  pub joined : (more : List Placed) (follows : Follows found.lexeme found.line rest more)
      → (whole : Lexes line text (found ∷ more)) × (places_in whole ≡ place ∷ places_behind found.lexeme found.line rest more follows)
