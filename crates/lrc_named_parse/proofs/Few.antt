-- A text has at most one lexeme more than bytes.
use Rattle.std.proofs.Common.{◌≡◌, ◌≤◌, ℕ, suc, ◌+◌, List, [], ◌∷◌, length, inl, ap, subst, ◌∙◌, arith, length-append}
use Rattle.lrc_lang.specs.Lexemes.{BeginsWith, IsDigit, IsLetter, IsLetterOrDigit, IsSpan, IsDigits, IsWord}
use Rattle.lrc_named_tokens.specs.declared.token.Sign.{Sign}
use Rattle.lrc_named_tokens.specs.declared.token.Sign.TheVariants as signs
use Rattle.lrc_named_tokens.specs.Token.{Place, Located}
use Rattle.lrc_named_tokens.specs.Lexemes.{sign_text, Lexes}
use Rattle.lrc_named_tokens.specs.Lexemes as lexemes

length_span : {P : ℕ → Type 0} {text front rest : List ℕ} → IsSpan P text front rest → length text ≡ length front + length rest
length_span {front = front} {rest = rest} span = ap length span.whole ∙ length-append front rest

turned : {P Q : ℕ → Type 0} → ((byte : ℕ) → P byte → Q byte) → (rest : List ℕ) → BeginsWith P rest → BeginsWith Q rest
turned implied [] begins = begins
turned implied (x ∷ rest) begins = implied x begins

-- a span of what a text begins with has a byte
taken_front : {P Q : ℕ → Type 0} {text rest : List ℕ} → ((byte : ℕ) → P byte → Q byte) → BeginsWith P text → (front : List ℕ) → IsSpan Q text front rest →
    1 ≤ length front
taken_front {P} {rest = rest} implied begins [] span = absurd (span.no_more (turned implied rest (subst (BeginsWith P) span.whole begins)))
taken_front implied begins (x ∷ front) span = omega arith

sign_length : (mark : Sign) → 1 ≤ length (sign_text mark)
sign_length signs.Semicolon = omega arith
sign_length signs.Assign = omega arith
sign_length signs.OpenBracket = omega arith
sign_length signs.CloseBracket = omega arith
sign_length signs.OpenBrace = omega arith
sign_length signs.CloseBrace = omega arith
sign_length signs.OpenParenthesis = omega arith
sign_length signs.CloseParenthesis = omega arith
sign_length signs.Plus = omega arith
sign_length signs.Minus = omega arith
sign_length signs.Star = omega arith
sign_length signs.Slash = omega arith
sign_length signs.Percent = omega arith
sign_length signs.Equal = omega arith
sign_length signs.NotEqual = omega arith
sign_length signs.Less = omega arith
sign_length signs.LessOrEqual = omega arith
sign_length signs.Greater = omega arith
sign_length signs.GreaterOrEqual = omega arith
sign_length signs.Comma = omega arith
sign_length signs.Range = omega arith
sign_length signs.AddAssign = omega arith
sign_length signs.SubtractAssign = omega arith

digits_length : {text digits rest : List ℕ} → IsDigits text digits rest → (1 ≤ length digits) × (length text ≡ length digits + length rest)
digits_length {digits = digits} h = (taken_front {P = IsDigit} {Q = IsDigit} (λ byte k. k) h.begins digits h.span, length_span h.span)

word_length : {text word rest : List ℕ} → IsWord text word rest → (1 ≤ length word) × (length text ≡ length word + length rest)
word_length {word = word} h = (taken_front {P = IsLetter} {Q = IsLetterOrDigit} (λ byte k. inl k) h.begins word h.span, length_span h.span)

pub few : {p : Place} {text : List ℕ} {all : List Located} → Lexes p text all → length all ≤ suc (length text)
few (lexemes.passes_blank h inside) = omega (arith, few inside)
few (lexemes.passes_line_feed h inside) = omega (arith, few inside)
few (lexemes.passes_comment h span inside) = omega (arith, length_span span, few inside)
few (lexemes.takes_number h is inside) =
    let d = digits_length h in
    omega (arith, d.0, d.1, few inside)
few (lexemes.takes_keyword h inside) =
    let d = word_length h in
    omega (arith, d.0, d.1, few inside)
few (lexemes.takes_name h is inside) =
    let d = word_length h in
    omega (arith, d.0, d.1, few inside)
few (lexemes.takes_sign {rest = rest} {mark = mark} is inside) =
    let long = ap length is.whole ∙ length-append (sign_text mark) rest in
    omega (arith, long, sign_length mark, few inside)
few (lexemes.stops_at_number h bad) = omega arith
few (lexemes.stops_at_byte h) = omega arith
few lexemes.stops_at_end = omega arith
