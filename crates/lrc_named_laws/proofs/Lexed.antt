-- The tokens of a named text are spelled as the language wants, and their lines are few.
use Rattle.std.proofs.Common.{◌≡◌, ◌≤◌, ◌+◌, inl, inr, ℕ, List, [], ◌∷◌, ◌++◌, length, map, refl, sym, ap, subst, ◌∙◌, arith, length-append, All}
use Rattle.std.specs.List.{AllByRecursion}
use Rattle.lrc_lang.specs.Lexemes.{BeginsWith, IsLetter, IsLetterOrDigit, IsSpan, IsWord}
use Rattle.lrc_lang.specs.Lexemes as lang
use Rattle.lrc_lang.specs.declared.token.Keyword as core
use Rattle.lrc_lang.specs.declared.token.Keyword.TheVariants as core_keywords
use Rattle.lrc_named_tokens.specs.declared.token.Keyword.TheVariants as keywords
use Rattle.lrc_named_tokens.specs.Token.{Token, number, name, keyword, sign, finish, Lexeme, token, bad_byte, bad_number, Place, Located}
use Rattle.lrc_named_tokens.specs.Lexemes.{HasLexemes, IsKeyword, Lexes, passes_blank, passes_line_feed, passes_comment, sign_text}
use Rattle.lrc_named_tokens.specs.Lexemes.{takes_number, takes_keyword, takes_name, takes_sign, stops_at_number, stops_at_byte, stops_at_end}
use Rattle.lrc_named_tree.specs.Grammar.{Numbered, numbered}
use Rattle.lrc_named_parse.specs.Faults.{AreFaultless}
use Rattle.lrc_named.specs.Lines.{lines_of}
use Rattle.lrc_named_text_laws.specs.Spelled.{Fits, IsName}

-- ---- words

also : (rest : List ℕ) → BeginsWith IsLetter rest → BeginsWith IsLetterOrDigit rest
also [] h = h
also (byte ∷ rest) h = inl h

begins_word : (text word rest : List ℕ) → text ≡ word ++ rest → BeginsWith IsLetter text → (BeginsWith IsLetterOrDigit rest → ⊥) → BeginsWith IsLetter word
begins_word text [] rest whole begins no_more = absurd (no_more (also rest (subst (BeginsWith IsLetter) whole begins)))
begins_word text (byte ∷ word) rest whole begins no_more = subst (BeginsWith IsLetter) whole begins

-- the keywords of the language are kept here too
no_keyword : (which : core.Keyword) (word : List ℕ) → (IsKeyword word → ⊥) → word ≡ lang.keyword_text which → ⊥
no_keyword core_keywords.Words word other is = other (keywords.Words, is)
no_keyword core_keywords.Locks word other is = other (keywords.Locks, is)
no_keyword core_keywords.Acquire word other is = other (keywords.Acquire, is)
no_keyword core_keywords.Release word other is = other (keywords.Release, is)
no_keyword core_keywords.Barrier word other is = other (keywords.Barrier, is)
no_keyword core_keywords.Print word other is = other (keywords.Print, is)
no_keyword core_keywords.If word other is = other (keywords.If, is)
no_keyword core_keywords.Else word other is = other (keywords.Else, is)
no_keyword core_keywords.While word other is = other (keywords.While, is)
no_keyword core_keywords.Me word other is = other (keywords.Me, is)
no_keyword core_keywords.Nodes word other is = other (keywords.Nodes, is)

word_is_name : {text word rest : List ℕ} → IsWord text word rest → (IsKeyword word → ⊥) → IsName word
word_is_name {text} {word} {rest} is other = record {
  begins = begins_word text word rest is.span.whole is.begins is.span.no_more;
  each = is.span.each;
  other = λ h. no_keyword h.0 word other h.1;
}

-- ---- tokens

-- its number fits, its name is a name of the language
abbrev pub IsGood : Token → Type 0
IsGood (number n) = Fits n
IsGood (name bytes) = IsName bytes
IsGood (keyword which) = Unit {0}
IsGood (sign mark) = Unit {0}
IsGood finish = Unit {0}

abbrev IsGoodLexeme : Lexeme → Type 0
IsGoodLexeme (token t) = IsGood t
IsGoodLexeme bad_byte = Unit {0}
IsGoodLexeme bad_number = Unit {0}

in_range : (n : ℕ) → n ≤ 18446744073709551615 → Fits n
in_range n h = omega (arith, h)

lexemes_good : {p : Place} {text : List ℕ} {all : List Located} → Lexes p text all → AllByRecursion (λ (l : Located). IsGoodLexeme l.lexeme) all
lexemes_good (passes_blank h inside) = lexemes_good inside
lexemes_good (passes_line_feed h inside) = lexemes_good inside
lexemes_good (passes_comment h span inside) = lexemes_good inside
lexemes_good (takes_number h is inside) = (in_range _ is.in_range, lexemes_good inside)
lexemes_good (takes_keyword h inside) = (tt, lexemes_good inside)
lexemes_good (takes_name h other inside) = (word_is_name h other, lexemes_good inside)
lexemes_good (takes_sign h inside) = (tt, lexemes_good inside)
lexemes_good (stops_at_number h bad) = (tt, tt)
lexemes_good (stops_at_byte h) = (tt, tt)
lexemes_good stops_at_end = (tt, tt)

abbrev pub AreGood : List Numbered → Type 0
AreGood tokens = AllByRecursion (λ (n : Numbered). IsGood n.token) tokens

faultless_good : (before : List Token) (lexemes : List Located) (tokens : List Token) (count : ℕ) → AreFaultless before lexemes tokens
    → AllByRecursion (λ (l : Located). IsGoodLexeme l.lexeme) lexemes → AreGood (numbered count tokens)
faultless_good before [] tokens count are good = subst (λ l. AreGood (numbered count l)) (sym are) tt
faultless_good before (next ∷ others) [] count are good = absurd are
faultless_good before (next ∷ others) (t ∷ tokens) count are good =
    (subst IsGoodLexeme are.0 good.0, faultless_good (before ++ t ∷ []) others tokens (count + 1) are.2 good.1)

pub tokens_good : (text : List ℕ) (lexemes : List Located) (tokens : List Token) → HasLexemes text lexemes → AreFaultless [] lexemes tokens
    → AreGood (numbered 0 tokens)
tokens_good text lexemes tokens lexed are = faultless_good [] lexemes tokens 0 are (lexemes_good lexed)

-- ---- lines

abbrev AreBelow : ℕ → List Located → Type 0
AreBelow most all = AllByRecursion (λ (l : Located). l.place.line ≤ most) all

below_more : (a b : ℕ) (all : List Located) → a ≤ b → AreBelow a all → AreBelow b all
below_more a b [] le below = tt
below_more a b (l ∷ all) le below = let first = below.0 in (omega (arith, le, first), below_more a b all le below.1)

shorter : {P : ℕ → Type 0} {text front rest : List ℕ} → IsSpan P text front rest → length rest ≤ length text
shorter {front = front} {rest = rest} span =
    let all = ap length span.whole in
    let long = length-append front rest in
    omega (arith, all, long)

-- a token does not stand on a line beyond those that the text may have
lines_below : {p : Place} {text : List ℕ} {all : List Located} → Lexes p text all → AreBelow (p.line + length text) all
lines_below {p} {all = all} (passes_blank {byte = byte} {rest = rest} h inside) =
    below_more (p.line + length rest) (p.line + length (byte ∷ rest)) all (omega arith) (lines_below inside)
lines_below {p} {all = all} (passes_line_feed {byte = byte} {rest = rest} h inside) =
    below_more (p.line + 1 + length rest) (p.line + length (byte ∷ rest)) all (omega arith) (lines_below inside)
lines_below {p} {all = all} (passes_comment {byte = byte} {text = behind} {rest = rest} h span inside) =
    let less = shorter span in
    below_more (p.line + length rest) (p.line + length (byte ∷ behind)) all (omega (arith, less)) (lines_below inside)
lines_below {p} {text} (takes_number {rest = rest} {more = more} h is inside) =
    let less = shorter h.span in
    (omega arith, below_more (p.line + length rest) (p.line + length text) more (omega (arith, less)) (lines_below inside))
lines_below {p} {text} (takes_keyword {rest = rest} {more = more} h inside) =
    let less = shorter h.span in
    (omega arith, below_more (p.line + length rest) (p.line + length text) more (omega (arith, less)) (lines_below inside))
lines_below {p} {text} (takes_name {rest = rest} {more = more} h other inside) =
    let less = shorter h.span in
    (omega arith, below_more (p.line + length rest) (p.line + length text) more (omega (arith, less)) (lines_below inside))
lines_below {p} {text} (takes_sign {rest = rest} {mark = mark} {more = more} h inside) =
    let all = ap length h.whole in
    let long = length-append (sign_text mark) rest in
    (omega arith, below_more (p.line + length rest) (p.line + length text) more (omega (arith, all, long)) (lines_below inside))
lines_below (stops_at_number h bad) = (omega arith, tt)
lines_below (stops_at_byte h) = (omega arith, tt)
lines_below stops_at_end = (omega arith, tt)

fit_below : (most : ℕ) (all : List Located) → most ≤ 65537 → AreBelow most all → AllByRecursion Fits (lines_of all)
fit_below most [] few below = tt
fit_below most (l ∷ all) few below = let first = below.0 in (omega (arith, few, first), fit_below most all few below.1)

pub lines_fit : (text : List ℕ) (all : List Located) → length text ≤ 65536 → HasLexemes text all → AllByRecursion Fits (lines_of all)
lines_fit text all few lexed = fit_below (1 + length text) all (omega (arith, few)) (lines_below lexed)
