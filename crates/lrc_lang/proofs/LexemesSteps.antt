-- One lexeme at the front of a text, from what the lexer has found out about the text.
use Rattle.std.proofs.Common.{◌≡◌, ℕ, ◌+◌, ◌-◌, ◌<◌, ◌≤◌, ◌^◌, List, ◌∷◌, length, get_or, take, drop, sym, subst, arith}
use Rattle.std.proofs.lemmas.List.{nil_from_length}
use Rattle.std.proofs.lemmas.Slice.{first_rest}
use Rattle.lrc_lang.specs.declared.token.Keyword.{Keyword}
use Rattle.lrc_lang.specs.Token.{number, name, keyword, finish, token, bad_number}
use Rattle.lrc_lang.specs.Lexemes.{IsBlank, IsLineFeed, IsHash, IsDigit, IsLetter, IsLetterOrDigit, IsWithinLine, BeginsWith}
use Rattle.lrc_lang.specs.Lexemes.{IsSpan, value_of, IsNoNumber, keyword_text, IsKeyword, Lexes, passes_blank, passes_line_feed}
use Rattle.lrc_lang.specs.Lexemes.{passes_comment, takes_number, takes_keyword, takes_name, stops_at_number, stops_at_end}
use Rattle.lrc_lang.specs.Lexer.{Passes, Takes}

pub number_is_taken : {text digits rest : List ℕ} {value : ℕ} → BeginsWith IsDigit text → IsSpan IsDigit text digits rest → ¬ BeginsWith IsLetter rest
    → (value_of digits < 2 ^ 64) × (value ≡ value_of digits) → Takes text (token (number value)) rest
number_is_taken begins span no_letter is line more follows =
    rw is.1 (takes_number (record { begins = begins; span = span }) (record { in_range = omega (arith, is.0); no_letter = no_letter }) follows)

pub bad_number_is_taken : {text digits rest : List ℕ} → BeginsWith IsDigit text → IsSpan IsDigit text digits rest → IsNoNumber digits rest
    → Takes text bad_number rest
bad_number_is_taken begins span bad line more none = rw none (stops_at_number (record { begins = begins; span = span }) bad)

pub keyword_is_taken : {text word rest : List ℕ} {which : Keyword} → BeginsWith IsLetter text → IsSpan IsLetterOrDigit text word rest
    → word ≡ keyword_text which → Takes text (token (keyword which)) rest
keyword_is_taken {text} {rest = rest} begins span is line more follows =
    takes_keyword (record { begins = begins; span = subst (λ w. IsSpan IsLetterOrDigit text w rest) is span }) follows

pub name_is_taken : {text word rest : List ℕ} → BeginsWith IsLetter text → IsSpan IsLetterOrDigit text word rest → ¬ IsKeyword word
    → Takes text (token (name word)) rest
name_is_taken begins span other line more follows = takes_name (record { begins = begins; span = span }) other follows

pub end_is_taken : (text rest : List ℕ) → length text < 1 → Takes text (token finish) rest
end_is_taken text rest empty line more none =
    rw (none, nil_from_length text (omega arith)) stops_at_end

-- the rest behind the first byte, as the code has it
rest_of : List ℕ → List ℕ
rest_of text = take (length text - 1) (drop 1 text)

opened : (text : List ℕ) → 1 ≤ length text → text ≡ get_or text 0 0 ∷ rest_of text
unfolding rest_of
opened text some = first_rest text 0 some

-- what is passed over at the front of a text
pub blank_is_passed : (line : ℕ) (text : List ℕ) → 1 ≤ length text → IsBlank (get_or text 0 0) → Passes line text line (take (length text - 1) (drop 1 text))
unfolding rest_of
blank_is_passed line text some blank all inside =
    subst (λ t. Lexes line t all) (sym (opened text some)) (passes_blank blank inside)

pub line_feed_is_passed : (line : ℕ) (text : List ℕ) → 1 ≤ length text → IsLineFeed (get_or text 0 0)
    → Passes line text (line + 1) (take (length text - 1) (drop 1 text))
unfolding rest_of
line_feed_is_passed line text some feed all inside =
    subst (λ t. Lexes line t all) (sym (opened text some)) (passes_line_feed feed inside)

pub comment_is_passed : (line : ℕ) (text words rest : List ℕ) → 1 ≤ length text → IsHash (get_or text 0 0)
    → IsSpan IsWithinLine (take (length text - 1) (drop 1 text)) words rest → Passes line text line rest
unfolding rest_of
comment_is_passed line text words rest some hash span all inside =
    subst (λ t. Lexes line t all) (sym (opened text some)) (passes_comment hash span inside)

-- a text by its first byte and the rest behind that, as the code has them
pub front_is : (text : List ℕ) → 1 ≤ length text → text ≡ get_or text 0 0 ∷ take (length text - 1) (drop 1 text)
front_is text some = first_rest text 0 some

pub begins_so : (IsSuch : ℕ → Type 0) (text : List ℕ) → 1 ≤ length text → IsSuch (get_or text 0 0) → BeginsWith IsSuch text
begins_so IsSuch text some is = subst (BeginsWith IsSuch) (sym (front_is text some)) is
