-- A text within the limits has 1 to 65,536 words and at most 64 locks.
use Rattle.std.proofs.Common.{◌≡◌, ◌≤◌, ◌<◌, ℕ, List, [], ◌∷◌, ◌++◌, Option, Some, None, refl, sym, subst, inl, inr, arith}
use Rattle.lrc_program.specs.declared.TheConstants.{MOST_WORDS}
use Rattle.lrc_lang.specs.declared.token.Keyword.{Keyword}
use Rattle.lrc_lang.specs.declared.token.Keyword.TheVariants.{Words, Locks}
use Rattle.lrc_lang.specs.declared.token.Sign.{Sign}
use Rattle.lrc_lang.specs.declared.token.Sign.TheVariants as signs
use Rattle.lrc_lang.specs.declared.fault.FaultKind.TheVariants.{OverLimit}
use Rattle.lrc_lang.specs.Token.{Token, Placed}
use Rattle.lrc_lang.specs.Symbol.{Symbol, number, keyword, sign, Names, symbol_of, symbol_of_sign, symbols_after, names_with}
use Rattle.lrc_program.specs.Tree.{ProgramTree}
use Rattle.lrc_lang.specs.Counts.{last_of}
use Rattle.lrc_lang.specs.Grammar.{AreSymbolsOf, program}
use Rattle.lrc_lang.specs.Faults.{IsNumberOutOfRange, AreFaultless, IsText}
use Rattle.lrc_lang.proofs.Reaching.{fold-append}

-- of tokens behind this one, none is a number that is out of its range
abbrev AreInRange : Option Token → List Token → Type 0
AreInRange last [] = Unit {0}
AreInRange last (t ∷ tokens) = (¬ IsNumberOutOfRange last t) × AreInRange (Some t) tokens

faultless_in_range : (before : List Token) (lexemes : List Placed) (tokens : List Token) → AreFaultless before lexemes tokens
    → AreInRange (last_of before) tokens
faultless_in_range before [] tokens are = subst (AreInRange (last_of before)) (sym are) tt
faultless_in_range before (found ∷ others) [] are = absurd are
faultless_in_range before (found ∷ others) (t ∷ tokens) are =
    let last_is : last_of (before ++ t ∷ []) ≡ Some t = fold-append _ None before (t ∷ []) in
    (λ out. are.1 OverLimit (inl out), subst (λ last. AreInRange last tokens) last_is (faultless_in_range (before ++ t ∷ []) others tokens are.2))

-- ---- the token of a symbol

sign_keyword : (mark : Sign) (which : Keyword) → symbol_of_sign mark ≡ keyword which → ⊥
sign_keyword = elim [
  | signs.Semicolon ↦ λ which e. absurd cc
  | signs.Assign ↦ λ which e. absurd cc
  | signs.OpenBracket ↦ λ which e. absurd cc
  | signs.CloseBracket ↦ λ which e. absurd cc
  | signs.OpenBrace ↦ λ which e. absurd cc
  | signs.CloseBrace ↦ λ which e. absurd cc
  | signs.OpenParenthesis ↦ λ which e. absurd cc
  | signs.CloseParenthesis ↦ λ which e. absurd cc
  | signs.Plus ↦ λ which e. absurd cc
  | signs.Minus ↦ λ which e. absurd cc
  | signs.Star ↦ λ which e. absurd cc
  | signs.Slash ↦ λ which e. absurd cc
  | signs.Percent ↦ λ which e. absurd cc
  | signs.Equal ↦ λ which e. absurd cc
  | signs.NotEqual ↦ λ which e. absurd cc
  | signs.Less ↦ λ which e. absurd cc
  | signs.LessOrEqual ↦ λ which e. absurd cc
  | signs.Greater ↦ λ which e. absurd cc
  | signs.GreaterOrEqual ↦ λ which e. absurd cc
]

sign_number : (mark : Sign) (n : ℕ) → symbol_of_sign mark ≡ number n → ⊥
sign_number = elim [
  | signs.Semicolon ↦ λ n e. absurd cc
  | signs.Assign ↦ λ n e. absurd cc
  | signs.OpenBracket ↦ λ n e. absurd cc
  | signs.CloseBracket ↦ λ n e. absurd cc
  | signs.OpenBrace ↦ λ n e. absurd cc
  | signs.CloseBrace ↦ λ n e. absurd cc
  | signs.OpenParenthesis ↦ λ n e. absurd cc
  | signs.CloseParenthesis ↦ λ n e. absurd cc
  | signs.Plus ↦ λ n e. absurd cc
  | signs.Minus ↦ λ n e. absurd cc
  | signs.Star ↦ λ n e. absurd cc
  | signs.Slash ↦ λ n e. absurd cc
  | signs.Percent ↦ λ n e. absurd cc
  | signs.Equal ↦ λ n e. absurd cc
  | signs.NotEqual ↦ λ n e. absurd cc
  | signs.Less ↦ λ n e. absurd cc
  | signs.LessOrEqual ↦ λ n e. absurd cc
  | signs.Greater ↦ λ n e. absurd cc
  | signs.GreaterOrEqual ↦ λ n e. absurd cc
]

is_keyword : (names : Names) (t : Token) (which : Keyword) → symbol_of names t ≡ keyword which → t ≡ Token.keyword which
is_keyword names (Token.number n) which e = absurd cc
is_keyword names (Token.name bytes) which e = absurd cc
is_keyword names (Token.keyword other) which e = cc
is_keyword names (Token.sign mark) which e = absurd (sign_keyword mark which e)
is_keyword names Token.finish which e = absurd cc

is_number : (names : Names) (t : Token) (n : ℕ) → symbol_of names t ≡ number n → t ≡ Token.number n
is_number names (Token.number m) n e = cc
is_number names (Token.name bytes) n e = absurd cc
is_number names (Token.keyword other) n e = absurd cc
is_number names (Token.sign mark) n e = absurd (sign_number mark n e)
is_number names Token.finish n e = absurd cc

-- ---- the tokens of a program

-- tokens whose symbols are a symbol and others are a token of that symbol and tokens of the others
first_token : (names : Names) (tokens : List Token) (symbol : Symbol) (others : List Symbol) → symbols_after names tokens ≡ symbol ∷ others
    → (t : Token) × (rest : List Token) × (after : Names) × (tokens ≡ t ∷ rest) × (symbol_of names t ≡ symbol) × (symbols_after after rest ≡ others)
first_token names [] symbol others e = absurd cc
first_token names (t ∷ tokens) symbol others e = (t, tokens, names_with names t, refl, cc, cc)

-- where a keyword and a number come next, the number is in its range, and the others come in range behind it
next_number : (names : Names) (last : Option Token) (tokens : List Token) (which : Keyword) (n : ℕ) (others : List Symbol)
    → symbols_after names tokens ≡ keyword which ∷ number n ∷ others → AreInRange last tokens
    → (¬ IsNumberOutOfRange (Some (Token.keyword which)) (Token.number n))
    × ((rest : List Token) × (after : Names) × (symbols_after after rest ≡ others) × AreInRange (Some (Token.number n)) rest)
next_number names last tokens which n others e within =
    let (t, behind, after, tokens_are, symbol_is, symbols_are) = first_token names tokens (keyword which) (number n ∷ others) e in
    let (u, rest, past, behind_are, number_is, others_are) = first_token after behind (number n) others symbols_are in
    let t_is = is_keyword names t which symbol_is in
    let u_is = is_number after u n number_is in
    let whole : tokens ≡ Token.keyword which ∷ Token.number n ∷ rest = cc in
    let all = subst (AreInRange last) whole within in
    (all.1.0, (rest, past, others_are, all.1.1))

-- and where a sign comes next, the others come in range behind it
next_other : (names : Names) (last : Option Token) (tokens : List Token) (symbol : Symbol) (others : List Symbol)
    → symbols_after names tokens ≡ symbol ∷ others → AreInRange last tokens
    → (behind : Option Token) × (rest : List Token) × (after : Names) × (symbols_after after rest ≡ others) × AreInRange behind rest
next_other names last tokens symbol others e within =
    let (t, rest, after, tokens_are, symbol_is, symbols_are) = first_token names tokens symbol others e in
    let all = subst (AreInRange last) tokens_are within in
    (Some t, rest, after, symbols_are, all.1)

program_shared : (p : ProgramTree) (tokens : List Token) (all : List Symbol) → symbols_after [] tokens ≡ all → AreSymbolsOf p all → AreInRange None tokens
    → (1 ≤ p.words) × (p.words ≤ 65536) × (p.locks ≤ 64)
program_shared p tokens all e (program {words = words} {locks = locks} {more = more} d) within =
    let (words_in, (behind, after, symbols_are, in_range)) = next_number [] None tokens Words words _ e within in
    let (last, behind', after', symbols_are', in_range') = next_other after _ behind (sign signs.Semicolon) _ symbols_are in_range in
    let (locks_in, others) = next_number after' last behind' Locks locks _ symbols_are' in_range' in
    let most : MOST_WORDS ≡ 65536 = refl in
    let some : 1 ≤ words = omega (arith, λ (few : words < 1). words_in (inl few)) in
    let few : words ≤ 65536 = omega (arith, most, λ (many : MOST_WORDS < words). words_in (inr many)) in
    let few_locks : locks ≤ 64 = omega (arith, λ (many : 64 < locks). locks_in many) in
    (some, few, few_locks)

-- the program of a text has words and locks within the limits
pub text_shared : (text : List ℕ) (p : ProgramTree) → IsText text p → (1 ≤ p.words) × (p.words ≤ 65536) × (p.locks ≤ 64)
text_shared text p is = program_shared p is.tokens _ refl is.parsed (faultless_in_range [] is.lexemes is.tokens is.faultless)
