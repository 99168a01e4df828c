-- What stands in pieces of a text, before what stands behind them.
use Rattle.std.proofs.Common.{◌≡◌, ◌≢◌, ◌⊎◌, inl, inr, ℕ, ◌+◌, ◌-◌, ◌*◌, ◌^◌, ◌<◌, ◌≤◌, Bool, true, false, ◌&&◌, List, [], ◌∷◌, ◌++◌, length, map, refl, sym, ap, subst, leb, arith, ◌∙◌}
use Rattle.std.specs.Prelude.{codes, decimal}
use Rattle.std.specs.Int.{IsInRange}
use Rattle.std.specs.List.{All, list_all}
use Rattle.std.proofs.lemmas.Bool.{and_parts, leb-true}
use Rattle.std.proofs.lemmas.Fmt.{decimal_nonempty, digits_decimal, digits_value-decimal}
use Rattle.std.proofs.lemmas.List.Elements.{All-append, All-cons, All-head, All-nil, All-tail}
use Rattle.std.proofs.lemmas.Str.Parse.{IsDigitsTest, IsNumeralModel, WeighsDigits, numerals_by_weight}
use Rattle.lrc_lang.specs.Lexemes.{at, BeginsWith, HasFront, IsBlank, IsDigit, IsDigits, IsHash, IsKeyword, IsLetter, IsLetterOrDigit, IsLineFeed, IsNumber, IsSign, IsSpan, IsWithinLine, IsWord}
use Rattle.lrc_lang.specs.Lexemes.{keyword_text, Lexes, passes_blank, passes_comment, passes_line_feed, sign_text, stops_at_end, takes_keyword, takes_name, takes_number, takes_sign, value_of}
use Rattle.lrc_lang.specs.Token.{Placed, Lexeme, token, Token, number, name, keyword, sign, finish}
use Rattle.lrc_lang.specs.declared.token.Keyword.{Keyword}
use Rattle.lrc_lang.specs.declared.token.Keyword.TheVariants.{Words, Locks, Acquire, Release, Barrier, Print, If, Else, While, Me, Nodes}
use Rattle.lrc_lang.specs.declared.token.Sign.{Sign}
use Rattle.lrc_lang.proofs.LexemesSigns.{long_sign_is, short_sign_is}
use Rattle.lrc_named_text_laws.specs.Spelled.{Fits, IsName}

-- on whatever line the text begins, these tokens stand in it
pub record Stands (text : List ℕ) (ts : List Token) : Type 0 where
  pub on : (line : ℕ) → (all : List Placed) × Lexes line text all × (map (λ (p : Placed). p.lexeme) all ≡ map token ts)

-- ---- bytes

pub begins_weaker : (P Q : ℕ → Type 0) → ((b : ℕ) → P b → Q b) → (text : List ℕ) → BeginsWith P text → BeginsWith Q text
begins_weaker P Q f [] h = h
begins_weaker P Q f (b ∷ text) h = f b h

pub begins_behind : (P : ℕ → Type 0) (text rest : List ℕ) → BeginsWith P text → BeginsWith P (text ++ rest)
begins_behind P [] rest h = absurd h
begins_behind P (b ∷ text) rest h = h

-- a byte that is neither in a word nor `=`
abbrev pub IsOther : ℕ → Type 0
IsOther b = (b < 48) ⊎ ((57 < b) × (b < 61)) ⊎ ((90 < b) × (b < 95)) ⊎ (122 < b)

no_letter : (b : ℕ) → IsOther b → IsLetter b → ⊥
no_letter b (inl o) (inl h) = omega (arith, o, h.0)
no_letter b (inl o) (inr (inl h)) = omega (arith, o, h.0)
no_letter b (inl o) (inr (inr h)) = omega (arith, o, h)
no_letter b (inr (inl o)) (inl h) = omega (arith, o.1, h.0)
no_letter b (inr (inl o)) (inr (inl h)) = omega (arith, o.1, h.0)
no_letter b (inr (inl o)) (inr (inr h)) = omega (arith, o.1, h)
no_letter b (inr (inr (inl o))) (inl h) = omega (arith, o.0, h.1)
no_letter b (inr (inr (inl o))) (inr (inl h)) = omega (arith, o.1, h.0)
no_letter b (inr (inr (inl o))) (inr (inr h)) = omega (arith, o.1, h)
no_letter b (inr (inr (inr o))) (inl h) = omega (arith, o, h.1)
no_letter b (inr (inr (inr o))) (inr (inl h)) = omega (arith, o, h.1)
no_letter b (inr (inr (inr o))) (inr (inr h)) = omega (arith, o, h)

no_digit : (b : ℕ) → IsOther b → IsDigit b → ⊥
no_digit b (inl o) h = omega (arith, o, h.0)
no_digit b (inr (inl o)) h = omega (arith, o.0, h.1)
no_digit b (inr (inr (inl o))) h = omega (arith, o.0, h.1)
no_digit b (inr (inr (inr o))) h = omega (arith, o, h.1)

no_equal : (b : ℕ) → IsOther b → b ≡ 61 → ⊥
no_equal b (inl o) h = omega (arith, o, h)
no_equal b (inr (inl o)) h = omega (arith, o.1, h)
no_equal b (inr (inr (inl o))) h = omega (arith, o.0, h)
no_equal b (inr (inr (inr o))) h = omega (arith, o, h)

no_word : (b : ℕ) → IsOther b → IsLetterOrDigit b → ⊥
no_word b o (inl h) = no_letter b o h
no_word b o (inr h) = no_digit b o h

-- behind a word, a number or a sign stands such a byte, or nothing
pub record IsCalm (rest : List ℕ) : Type 0 where
  pub no_word_goes_on : ¬ BeginsWith IsLetterOrDigit rest
  pub no_sign_goes_on : ¬ BeginsWith (λ b. b ≡ 61) rest

pub calm : (b : ℕ) (rest : List ℕ) → IsOther b → IsCalm (b ∷ rest)
calm b rest o = record { no_word_goes_on = λ h. no_word b o h; no_sign_goes_on = λ h. no_equal b o h }

-- ---- what is passed over

pub blank : {rest : List ℕ} {ts : List Token} → Stands rest ts → Stands (32 ∷ rest) ts
blank h = record { on = λ line. let (all, lexed, is) = h.on line in (all, passes_blank (inr (inr refl)) lexed, is) }

pub feed : {rest : List ℕ} {ts : List Token} → Stands rest ts → Stands (10 ∷ rest) ts
feed h = record { on = λ line. let (all, lexed, is) = h.on (line + 1) in (all, passes_line_feed refl lexed, is) }

pub comment : (words rest : List ℕ) {ts : List Token} → All IsWithinLine words → Stands (10 ∷ rest) ts → Stands (35 ∷ (words ++ 10 ∷ rest)) ts
comment words rest each h =
    record {
      on = λ line. let (all, lexed, is) = h.on line in
          (all, passes_comment {words = words} {rest = 10 ∷ rest} refl (record { whole = refl; each = each; no_more = λ not. not refl }) lexed, is);
    }

-- ---- tokens

pub named : (bytes rest : List ℕ) {ts : List Token} → IsName bytes → IsCalm rest → Stands rest ts → Stands (bytes ++ rest) (name bytes ∷ ts)
named bytes rest is free h =
    record {
      on = λ line. let (all, lexed, same) = h.on line in (
        at line (token (name bytes)) ∷ all,
        takes_name {word = bytes} {rest = rest}
            (record { begins = begins_behind IsLetter bytes rest is.begins; span = record { whole = refl; each = is.each; no_more = free.no_word_goes_on } })
            is.other lexed,
        ap (λ l. token (name bytes) ∷ l) same,
      );
    }

-- the test of digits, and their value
tells : IsDigitsTest (All IsDigit)
tells = record {
  empty = All-nil IsDigit;
  parts = λ c cs all. (All-head IsDigit c cs all, All-tail IsDigit c cs all);
  more = λ c cs one all. All-cons IsDigit c cs one all;
}

weighs : WeighsDigits value_of
weighs = record { empty = refl; more = λ c cs is. refl }

model : IsNumeralModel (All IsDigit) value_of
model = numerals_by_weight (All IsDigit) tells value_of weighs

pub digits : (n : ℕ) → Fits n → All IsDigit (decimal n)
digits n small = digits_decimal model n small

first_digit : (text rest : List ℕ) → 0 < length text → All IsDigit text → BeginsWith IsDigit (text ++ rest)
first_digit [] rest some all = absurd (omega (arith, some))
first_digit (b ∷ text) rest some all = All-head IsDigit b text all

pub begins_digit : (n : ℕ) (rest : List ℕ) → Fits n → BeginsWith IsDigit (decimal n ++ rest)
begins_digit n rest small = first_digit (decimal n) rest (decimal_nonempty n small) (digits n small)

pub numbered : (n : ℕ) (rest : List ℕ) {ts : List Token} → Fits n → IsCalm rest → Stands rest ts → Stands (decimal n ++ rest) (number n ∷ ts)
numbered n rest small free h =
    let value = digits_value-decimal model n small in
    record {
      on = λ line. let (all, lexed, same) = h.on line in (
        at line (token (number (value_of (decimal n)))) ∷ all,
        takes_number {digits = decimal n} {rest = rest}
            (record {
              begins = begins_digit n rest small;
              span = record {
                whole = refl;
                each = digits n small;
                no_more = λ b. free.no_word_goes_on (begins_weaker IsDigit IsLetterOrDigit (λ c d. inr d) rest b);
              };
            })
            (record {
              in_range = omega (arith, value, small);
              no_letter = λ b. free.no_word_goes_on (begins_weaker IsLetter IsLetterOrDigit (λ c d. inl d) rest b);
            })
            lexed,
        ap (λ v. token (number v) ∷ map (λ (p : Placed). p.lexeme) all) value ∙ ap (λ l. token (number n) ∷ l) same,
      );
    }

-- ---- keywords

small : ℕ → Bool
small b = leb 97 b && leb b 122

small_letter : (b : ℕ) → small b ≡ true → IsLetter b
unfolding small
small_letter b is = let parts = and_parts (leb 97 b) (leb b 122) is in inr (inl (leb-true 97 b parts.0, leb-true b 122 parts.1))

small_letters : (text : List ℕ) → list_all small text ≡ true → All IsLetterOrDigit text
small_letters [] is = All-nil IsLetterOrDigit
small_letters (b ∷ text) is =
    let parts = and_parts (small b) (list_all small text) is in
    All-cons IsLetterOrDigit b text (inl (small_letter b parts.0)) (small_letters text parts.1)

keyword_small : (which : Keyword) → list_all small (keyword_text which) ≡ true
unfolding small
keyword_small Words = refl
keyword_small Locks = refl
keyword_small Acquire = refl
keyword_small Release = refl
keyword_small Barrier = refl
keyword_small Print = refl
keyword_small If = refl
keyword_small Else = refl
keyword_small While = refl
keyword_small Me = refl
keyword_small Nodes = refl

keyword_begins : (which : Keyword) (rest : List ℕ) → BeginsWith IsLetter (keyword_text which ++ rest)
keyword_begins Words rest = inr (inl (omega arith, omega arith))
keyword_begins Locks rest = inr (inl (omega arith, omega arith))
keyword_begins Acquire rest = inr (inl (omega arith, omega arith))
keyword_begins Release rest = inr (inl (omega arith, omega arith))
keyword_begins Barrier rest = inr (inl (omega arith, omega arith))
keyword_begins Print rest = inr (inl (omega arith, omega arith))
keyword_begins If rest = inr (inl (omega arith, omega arith))
keyword_begins Else rest = inr (inl (omega arith, omega arith))
keyword_begins While rest = inr (inl (omega arith, omega arith))
keyword_begins Me rest = inr (inl (omega arith, omega arith))
keyword_begins Nodes rest = inr (inl (omega arith, omega arith))

pub word : (which : Keyword) (rest : List ℕ) {ts : List Token} → IsCalm rest → Stands rest ts → Stands (keyword_text which ++ rest) (keyword which ∷ ts)
word which rest free h =
    record {
      on = λ line. let (all, lexed, same) = h.on line in (
        at line (token (keyword which)) ∷ all,
        takes_keyword {rest = rest} {which = which}
            (record {
              begins = keyword_begins which rest;
              span = record { whole = refl; each = small_letters (keyword_text which) (keyword_small which); no_more = free.no_word_goes_on };
            })
            lexed,
        ap (λ l. token (keyword which) ∷ l) same,
      );
    }

-- ---- a name of the translation's own

abbrev first_or : List ℕ → ℕ
first_or [] = 0
first_or (b ∷ text) = b

own_is_no_keyword : (text : List ℕ) (which : Keyword) → 95 ∷ text ≡ keyword_text which → ⊥
own_is_no_keyword text Words is = let e : 95 ≡ 119 = ap first_or is in omega (arith, e)
own_is_no_keyword text Locks is = let e : 95 ≡ 108 = ap first_or is in omega (arith, e)
own_is_no_keyword text Acquire is = let e : 95 ≡ 97 = ap first_or is in omega (arith, e)
own_is_no_keyword text Release is = let e : 95 ≡ 114 = ap first_or is in omega (arith, e)
own_is_no_keyword text Barrier is = let e : 95 ≡ 98 = ap first_or is in omega (arith, e)
own_is_no_keyword text Print is = let e : 95 ≡ 112 = ap first_or is in omega (arith, e)
own_is_no_keyword text If is = let e : 95 ≡ 105 = ap first_or is in omega (arith, e)
own_is_no_keyword text Else is = let e : 95 ≡ 101 = ap first_or is in omega (arith, e)
own_is_no_keyword text While is = let e : 95 ≡ 119 = ap first_or is in omega (arith, e)
own_is_no_keyword text Me is = let e : 95 ≡ 109 = ap first_or is in omega (arith, e)
own_is_no_keyword text Nodes is = let e : 95 ≡ 110 = ap first_or is in omega (arith, e)

pub own_is_name : (k : ℕ) → Fits k → IsName (codes "_" ++ decimal k)
own_is_name k small = record {
  begins = inr (inr refl);
  each = All-cons IsLetterOrDigit 95 (decimal k) (inl (inr (inr refl))) (letters (decimal k) (digits k small));
  other = λ is. own_is_no_keyword (decimal k) is.0 is.1;
}
  where
    letters : (text : List ℕ) → All IsDigit text → All IsLetterOrDigit text
    letters [] all = All-nil IsLetterOrDigit
    letters (b ∷ text) all = All-cons IsLetterOrDigit b text (inr (All-head IsDigit b text all)) (letters text (All-tail IsDigit b text all))

-- ---- signs

pub short : (mark : Sign) (byte : ℕ) (rest : List ℕ) {ts : List Token} → sign_text mark ≡ byte ∷ [] → ¬ BeginsWith (λ b. b ≡ 61) rest → Stands rest ts
    → Stands (byte ∷ rest) (sign mark ∷ ts)
short mark byte rest is free h =
    record {
      on = λ line. let (all, lexed, same) = h.on line in (
        at line (token (sign mark)) ∷ all,
        takes_sign (short_sign_is {first = byte} {behind = rest} {mark = mark} is (λ begins longer. absurd (free begins))) lexed,
        ap (λ l. token (sign mark) ∷ l) same,
      );
    }

pub long : (mark : Sign) (first : ℕ) (rest : List ℕ) {ts : List Token} → sign_text mark ≡ first ∷ 61 ∷ [] → Stands rest ts
    → Stands (first ∷ 61 ∷ rest) (sign mark ∷ ts)
long mark first rest is h =
    record {
      on = λ line. let (all, lexed, same) = h.on line in (
        at line (token (sign mark)) ∷ all,
        takes_sign (long_sign_is {first = first} {behind = 61 ∷ rest} {rest = rest} {mark = mark} is refl) lexed,
        ap (λ l. token (sign mark) ∷ l) same,
      );
    }

-- the end of the text
pub ended : Stands [] (finish ∷ [])
ended = record { on = λ line. (at line (token finish) ∷ [], stops_at_end, refl) }
