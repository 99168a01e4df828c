-- The end of a text stands behind all its lines and bytes.
use Rattle.std.proofs.Common.{◌≡◌, ◌≢◌, ℕ, ◌+◌, List, [], ◌∷◌, ◌++◌, ◌==◌, length, refl, ap, ◌∙◌, arith, cond, All, count_by, length-append}
use Rattle.std.proofs.lemmas.Bool.Decides.{nat_tests}
use Rattle.std.proofs.lemmas.List.Elements.{All-head, All-tail}
use Rattle.std.proofs.lemmas.List.Sums.{sum_by-cons}
use Rattle.lrc_lang.specs.Lexemes.{IsDigit, IsLetterOrDigit, IsSpan}
use Rattle.lrc_named_tokens.specs.declared.token.Sign.{Sign}
use Rattle.lrc_named_tokens.specs.declared.token.Sign.TheVariants as signs
use Rattle.lrc_named_tokens.specs.Token.{finish, Lexeme, token, Place, Located}
use Rattle.lrc_named_tokens.specs.Lexemes.{sign_text, at, Lexes, passes_blank, passes_line_feed, passes_comment}
use Rattle.lrc_named_tokens.specs.Lexemes.{takes_number, takes_keyword, takes_name, takes_sign, stops_at_number, stops_at_byte, stops_at_end}

-- how many line feeds a text has
abbrev feeds : List ℕ → ℕ
feeds text = count_by (λ byte. byte == 10) text

is_feed : (byte : ℕ) → byte ≡ 10 → ◌≡◌ {A = ℕ} (cond (byte == 10) 1 0) 1
is_feed byte h = grind (arith, nat_tests)

no_feed : (byte : ℕ) → byte ≢ 10 → ◌≡◌ {A = ℕ} (cond (byte == 10) 1 0) 0
no_feed byte h = grind (arith, nat_tests)

feeds-other : (byte : ℕ) (rest : List ℕ) → byte ≢ 10 → feeds (byte ∷ rest) ≡ feeds rest
feeds-other byte rest h = omega (arith, sum_by-cons (λ b. cond (b == 10) 1 0) byte rest, no_feed byte h)

feeds-feed : (byte : ℕ) (rest : List ℕ) → byte ≡ 10 → feeds (byte ∷ rest) ≡ feeds rest + 1
feeds-feed byte rest h = omega (arith, sum_by-cons (λ b. cond (b == 10) 1 0) byte rest, is_feed byte h)

feeds-append : (P : ℕ → Type 0) → ((byte : ℕ) → P byte → byte ≢ 10) → (front rest : List ℕ) → All P front → feeds (front ++ rest) ≡ feeds rest
feeds-append P other [] rest each = refl
feeds-append P other (x ∷ xs) rest each =
    feeds-other x (xs ++ rest) (other x (All-head P x xs each)) ∙ feeds-append P other xs rest (All-tail P x xs each)

feeds-span : {P : ℕ → Type 0} {text front rest : List ℕ} → ((byte : ℕ) → P byte → byte ≢ 10) → IsSpan P text front rest → feeds text ≡ feeds rest
feeds-span {P} {text} {front} {rest} other span = ap feeds span.whole ∙ feeds-append P other front rest span.each

length-span : {P : ℕ → Type 0} {text front rest : List ℕ} → IsSpan P text front rest → length text ≡ length front + length rest
length-span {front = front} {rest = rest} span = ap length span.whole ∙ length-append front rest

feeds-sign_text : (mark : Sign) (rest : List ℕ) → feeds (sign_text mark ++ rest) ≡ feeds rest
feeds-sign_text signs.Semicolon rest = refl
feeds-sign_text signs.Assign rest = refl
feeds-sign_text signs.OpenBracket rest = refl
feeds-sign_text signs.CloseBracket rest = refl
feeds-sign_text signs.OpenBrace rest = refl
feeds-sign_text signs.CloseBrace rest = refl
feeds-sign_text signs.OpenParenthesis rest = refl
feeds-sign_text signs.CloseParenthesis rest = refl
feeds-sign_text signs.Plus rest = refl
feeds-sign_text signs.Minus rest = refl
feeds-sign_text signs.Star rest = refl
feeds-sign_text signs.Slash rest = refl
feeds-sign_text signs.Percent rest = refl
feeds-sign_text signs.Equal rest = refl
feeds-sign_text signs.NotEqual rest = refl
feeds-sign_text signs.Less rest = refl
feeds-sign_text signs.LessOrEqual rest = refl
feeds-sign_text signs.Greater rest = refl
feeds-sign_text signs.GreaterOrEqual rest = refl
feeds-sign_text signs.Comma rest = refl
feeds-sign_text signs.Range rest = refl
feeds-sign_text signs.AddAssign rest = refl
feeds-sign_text signs.SubtractAssign rest = refl

digit_feeds : (byte : ℕ) → IsDigit byte → byte ≢ 10
digit_feeds byte h = omega arith

word_feeds : (byte : ℕ) → IsLetterOrDigit byte → byte ≢ 10
word_feeds byte h = omega arith

-- a list that ends with the end of the text and begins with another lexeme goes on to that end
goes_on : {p end : Place} {found : Lexeme} {more : List Located} (front : List Located) → at p found ∷ more ≡ front ++ at end (token finish) ∷ []
    → found ≢ token finish → (others : List Located) × (more ≡ others ++ at end (token finish) ∷ [])
goes_on {p} {end} {found} {more} [] e other =
    let same : at p found ≡ at end (token finish) = cc in
    absurd (other (ap (λ f. f.lexeme) same))
goes_on (x ∷ others) e other = (others, cc)

-- nothing ends with the end of the text and has no end
nothing_behind : (others : List Located) (last : Located) → [] ≡ others ++ last ∷ [] → ⊥
nothing_behind [] last e = cc
nothing_behind (x ∷ others) last e = cc

-- the end is so many lines and bytes behind the place where the text begins
pub record IsEndOf (text : List ℕ) (p end : Place) : Type 0 where
  pub line : end.line ≡ feeds text + p.line
  pub offset : end.offset ≡ length text + p.offset

pub place_of_end : {p end : Place} {text : List ℕ} {all : List Located} → Lexes p text all → (front : List Located) → all ≡ front ++ at end (token finish) ∷ []
    → IsEndOf text p end
place_of_end (passes_blank {byte = byte} {rest = rest} h inside) front e =
    let here = feeds-other byte rest (omega arith) in
    let there = place_of_end inside front e in
    record { line = omega (arith, here, there.line); offset = omega (arith, there.offset) }
place_of_end (passes_line_feed {byte = byte} {rest = rest} h inside) front e =
    let here = feeds-feed byte rest h in
    let there = place_of_end inside front e in
    record { line = omega (arith, here, there.line); offset = omega (arith, there.offset) }
place_of_end (passes_comment {byte = byte} {text = behind} h span inside) front e =
    let here = feeds-other byte behind (omega arith) ∙ feeds-span (λ b k. k) span in
    let there = place_of_end inside front e in
    record { line = omega (arith, here, there.line); offset = omega (arith, length-span span, there.offset) }
place_of_end (takes_number h is inside) front e =
    let on = goes_on front e (λ p. cc) in
    let here = feeds-span digit_feeds h.span in
    let there = place_of_end inside on.0 on.1 in
    record { line = omega (arith, here, there.line); offset = omega (arith, length-span h.span, there.offset) }
place_of_end (takes_keyword h inside) front e =
    let on = goes_on front e (λ p. cc) in
    let here = feeds-span word_feeds h.span in
    let there = place_of_end inside on.0 on.1 in
    record { line = omega (arith, here, there.line); offset = omega (arith, length-span h.span, there.offset) }
place_of_end (takes_name h is inside) front e =
    let on = goes_on front e (λ p. cc) in
    let here = feeds-span word_feeds h.span in
    let there = place_of_end inside on.0 on.1 in
    record { line = omega (arith, here, there.line); offset = omega (arith, length-span h.span, there.offset) }
place_of_end (takes_sign {rest = rest} {mark = mark} is inside) front e =
    let on = goes_on front e (λ p. cc) in
    let here = ap feeds is.whole ∙ feeds-sign_text mark rest in
    let long = ap length is.whole ∙ length-append (sign_text mark) rest in
    let there = place_of_end inside on.0 on.1 in
    record { line = omega (arith, here, there.line); offset = omega (arith, long, there.offset) }
place_of_end (stops_at_number h bad) front e =
    let on = goes_on front e (λ p. cc) in
    absurd (nothing_behind on.0 _ on.1)
place_of_end (stops_at_byte h) front e =
    let on = goes_on front e (λ p. cc) in
    absurd (nothing_behind on.0 _ on.1)
place_of_end {p} {end} stops_at_end [] e =
    let same : at p (token finish) ≡ at end (token finish) = cc in
    record { line = omega (arith, ap (λ f. f.place.line) same); offset = omega (arith, ap (λ f. f.place.offset) same) }
place_of_end {end = end} stops_at_end (x ∷ others) e = absurd (nothing_behind others (at end (token finish)) cc)
