-- The names and the numbers of label lines.
use Rattle.std.specs.Prelude.{ℕ, ◌==◌, ◌&&◌, ◌||◌, not, Bool, false, List, [], ◌∷◌}
use Rattle.std.specs.Char.{is_ascii_alphabetic, is_ascii_digit}
use Rattle.std.specs.List.{list_any, list_all}
use Rattle.std.specs.Str.{bytes_eq}
use Rattle.lrc_lang.specs.declared.token.Keyword.{Keyword}
use Rattle.lrc_lang.specs.declared.token.Keyword.TheVariants.{Words, Locks, Acquire, Release, Barrier, Print, If, Else, While, Me, Nodes}
use Rattle.lrc_lang.specs.Lexemes.{keyword_text}

-- one or more decimal digits
abbrev pub is_numeral : List ℕ → Bool
is_numeral [] = false
is_numeral (digit ∷ digits) = list_all is_ascii_digit (digit ∷ digits)

-- a letter or `_`
abbrev pub is_letter : ℕ → Bool
is_letter byte = is_ascii_alphabetic byte || (byte == 95)

-- what may stand in a word
abbrev pub is_word_byte : ℕ → Bool
is_word_byte byte = is_letter byte || is_ascii_digit byte

abbrev pub keywords : List Keyword
keywords = Words ∷ Locks ∷ Acquire ∷ Release ∷ Barrier ∷ Print ∷ If ∷ Else ∷ While ∷ Me ∷ Nodes ∷ []

-- the word is spelled as a keyword
abbrev pub is_keyword : List ℕ → Bool
is_keyword word = list_any (λ keyword. bytes_eq (keyword_text keyword) word) keywords

-- a word of the language that is no keyword
abbrev pub is_name : List ℕ → Bool
is_name [] = false
is_name (first ∷ rest) = is_letter first && (list_all is_word_byte rest && not (is_keyword (first ∷ rest)))
