-- One lexeme at the front of a text, and what is passed over there, from what the lexer has found out about the text.
use Rattle.std.proofs.Common.{◌≡◌, ℕ, ◌+◌, ◌-◌, ◌<◌, ◌≤◌, ◌^◌, List, ◌∷◌, length, get_or, take, drop, sym, ap, subst, arith, length-append}
use Rattle.std.proofs.Common.{length-take, length-drop}
use Rattle.std.proofs.lemmas.List.{nil_from_length}
use Rattle.lrc_lang.specs.Lexemes.{IsBlank, IsLineFeed, IsHash, IsDigit, IsLetter, IsLetterOrDigit, IsWithinLine, BeginsWith, IsSpan, value_of, IsNoNumber}
use Rattle.lrc_lang.proofs.LexemesSteps.{front_is}
use Rattle.lrc_named_tokens.specs.declared.token.Keyword.{Keyword}
use Rattle.lrc_named_tokens.specs.Token.{number, name, keyword, finish, token, bad_number, Place}
use Rattle.lrc_named_tokens.specs.Lexemes.{keyword_text, IsKeyword, along, next_line, Lexes, passes_blank, passes_line_feed, passes_comment}
use Rattle.lrc_named_tokens.specs.Lexemes.{takes_number, takes_keyword, takes_name, stops_at_number, stops_at_end}
use Rattle.lrc_named_tokens.specs.Lexer.{Passes, Takes}

-- a text is longer than what stands behind its front by that front
pub span_length : {P : ℕ → Type 0} {text front rest : List ℕ} → IsSpan P text front rest → length text - length rest ≡ length front
span_length {front = front} {rest = rest} span = omega (arith, ap length span.whole, length-append front rest)

pub number_is_taken : {text digits rest : List ℕ} {value : ℕ} → BeginsWith IsDigit text → IsSpan IsDigit text digits rest → ¬ BeginsWith IsLetter rest
    → (value_of digits < 2 ^ 64) × (value ≡ value_of digits) → Takes text (token (number value)) rest
number_is_taken {rest = rest} begins span no_letter is p more follows =
    rw is.1 (takes_number (record { begins = begins; span = span }) (record { in_range = omega (arith, is.0); no_letter = no_letter })
    (subst (λ n. Lexes (along n p) rest more) (span_length span) follows))

pub bad_number_is_taken : {text digits rest : List ℕ} → BeginsWith IsDigit text → IsSpan IsDigit text digits rest → IsNoNumber digits rest
    → Takes text bad_number rest
bad_number_is_taken begins span bad p more none = rw none (stops_at_number (record { begins = begins; span = span }) bad)

pub keyword_is_taken : {text word rest : List ℕ} {which : Keyword} → BeginsWith IsLetter text → IsSpan IsLetterOrDigit text word rest
    → word ≡ keyword_text which → Takes text (token (keyword which)) rest
keyword_is_taken {text} {rest = rest} {which = which} begins span is p more follows =
    let spelled = subst (λ w. IsSpan IsLetterOrDigit text w rest) is span in
    takes_keyword (record { begins = begins; span = spelled }) (subst (λ n. Lexes (along n p) rest more) (span_length spelled) follows)

pub name_is_taken : {text word rest : List ℕ} → BeginsWith IsLetter text → IsSpan IsLetterOrDigit text word rest → ¬ IsKeyword word
    → Takes text (token (name word)) rest
name_is_taken {rest = rest} begins span other p more follows =
    takes_name (record { begins = begins; span = span }) other (subst (λ n. Lexes (along n p) rest more) (span_length span) follows)

pub end_is_taken : (text rest : List ℕ) → length text < 1 → Takes text (token finish) rest
end_is_taken text rest empty p more none = rw (none, nil_from_length text (omega arith)) stops_at_end

-- ---- what is passed over at the front of a text

-- the rest behind the first byte, as the code has it
rest_of : List ℕ → List ℕ
rest_of text = take (length text - 1) (drop 1 text)

pub length-behind : (text : List ℕ) → length (take (length text - 1) (drop 1 text)) ≡ length text - 1
length-behind text = simp (length-take, length-drop) (omega arith)

length-rest_of : (text : List ℕ) → length (rest_of text) ≡ length text - 1
unfolding rest_of
length-rest_of text = simp (length-take, length-drop) (omega arith)

opened : (text : List ℕ) → 1 ≤ length text → text ≡ get_or text 0 0 ∷ rest_of text
unfolding rest_of
opened text some = front_is text some

pub blank_is_passed : (p : Place) (text : List ℕ) → 1 ≤ length text → IsBlank (get_or text 0 0)
    → Passes p text (along (length text - length (take (length text - 1) (drop 1 text))) p) (take (length text - 1) (drop 1 text))
unfolding rest_of
blank_is_passed p text some blank all inside =
    let one : length text - length (rest_of text) ≡ 1 = omega (arith, length-rest_of text) in
    subst (λ t. Lexes p t all) (sym (opened text some)) (passes_blank blank (subst (λ n. Lexes (along n p) (rest_of text) all) one inside))

pub line_feed_is_passed : (p : Place) (text : List ℕ) → 1 ≤ length text → IsLineFeed (get_or text 0 0)
    → Passes p text (next_line p) (take (length text - 1) (drop 1 text))
unfolding rest_of
line_feed_is_passed p text some feed all inside =
    subst (λ t. Lexes p t all) (sym (opened text some)) (passes_line_feed feed inside)

pub comment_is_passed : (p : Place) (text words rest : List ℕ) → 1 ≤ length text → IsHash (get_or text 0 0)
    → IsSpan IsWithinLine (take (length text - 1) (drop 1 text)) words rest → Passes p text (along (length text - length rest) p) rest
unfolding rest_of
comment_is_passed p text words rest some hash span all inside =
    let count : length text - length rest ≡ 1 + length words =
    omega (arith, length-rest_of text, ap length span.whole, length-append words rest) in
    subst (λ t. Lexes p t all) (sym (opened text some)) (passes_comment hash span (subst (λ n. Lexes (along n p) rest all) count inside))

-- the same, where the place and the rest are known by another name
pub passed_to : (p behind there : Place) (text rest last : List ℕ) → there ≡ behind → last ≡ rest → Passes p text behind rest → Passes p text there last
passed_to p behind there text rest last place is passed all inside =
    passed all (subst (λ q. Lexes q rest all) place (subst (λ r. Lexes there r all) is inside))
