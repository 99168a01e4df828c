-- What bytes the digits of numbers and fixed words have.
use Rattle.std.proofs.Common.{◌≡◌, ◌≢◌, ℕ, ◌^◌, ◌<◌, ◌≤◌, ◌==◌, ◌&&◌, ◌||◌, Bool, true, false, List, [], ◌∷◌, length, sym, refl, ◌∙◌, ap, arith, inl}
use Rattle.std.proofs.Common.{inr, All}
use Rattle.std.specs.Prelude.{decimal}
use Rattle.std.proofs.Math.Dec.{ltb}
use Rattle.std.proofs.lemmas.Bool.{ltb-true, eqb-true, and_parts}
use Rattle.std.proofs.lemmas.Bool.Decides.{eqb_tells}
use Rattle.std.specs.Str.Parse.{AllDigits, digits_value}
use Rattle.std.proofs.lemmas.Fmt.{decimal_is_IsNumeral_wide, length-decimal-le_wide}
use Rattle.std.proofs.lemmas.List.Elements.{All-cons}
use Rattle.std.proofs.lemmas.Str.Parse.{tells_digits}
use Rattle.lrc_races_lines.specs.Lacking.{Lacks}
use Rattle.lrc_races_lines.specs.Line.{IsName, IsText}

-- whether no byte of a text is a control byte, as a test
abbrev pub tests_plain : List ℕ → Bool
tests_plain [] = true
tests_plain (y ∷ ys) = ltb 31 y && tests_plain ys

-- such a text has no line feed and no carriage return
pub plain_lacks : (x : ℕ) (ys : List ℕ) → x < 32 → tests_plain ys ≡ true → Lacks x ys
plain_lacks x [] low e = tt
plain_lacks x (y ∷ ys) low e =
    let both = and_parts (ltb 31 y) (tests_plain ys) e in
    let high = ltb-true 31 y both.0 in
    ((λ same. omega arith), plain_lacks x ys low both.1)

-- ---- digits

digits_lack : (x : ℕ) → x < 48 → (ds : List ℕ) → AllDigits 10 ds → Lacks x ds
digits_lack x low [] all = tt
digits_lack x low (d ∷ ds) all =
    let h = tells_digits.parts d ds all in
    let high = h.0.0 in
    ((λ same. omega arith), digits_lack x low ds h.1)

pub numeral : (n : ℕ) → n < 10 ^ 64 → (0 < length (decimal n)) × AllDigits 10 (decimal n)
numeral n few = (decimal_is_IsNumeral_wide n few).0

pub number_lacks : (x n : ℕ) → x < 48 → n < 10 ^ 64 → Lacks x (decimal n)
number_lacks x n low few = digits_lack x low (decimal n) (numeral n few).1

pub number_short : (n : ℕ) → n < 10 ^ 64 → length (decimal n) ≤ 64
number_short n few = length-decimal-le_wide 64 n (omega arith) few few

pub one_decimal : (m n : ℕ) → m < 10 ^ 64 → n < 10 ^ 64 → decimal m ≡ decimal n → m ≡ n
one_decimal m n few less e =
    sym (decimal_is_IsNumeral_wide m few).1 ∙ ap (digits_value 10) e ∙ (decimal_is_IsNumeral_wide n less).1

-- ---- names and locations

named_bytes : (ds : List ℕ) → AllDigits 10 ds → All (λ (b : ℕ). (b ≢ 124) × (b ≢ 40) × (b ≢ 41) × (b ≢ 10)) ds
named_bytes [] all = λ i d lt. absurd (omega arith)
named_bytes (d ∷ ds) all =
    let h = tells_digits.parts d ds all in
    let low = h.0.0 in
    let high = h.0.1 in
    let here : (d ≢ 124) × (d ≢ 40) × (d ≢ 41) × (d ≢ 10) = ((λ e. omega arith), (λ e. omega arith), (λ e. omega arith), (λ e. omega arith)) in
    All-cons (λ (b : ℕ). (b ≢ 124) × (b ≢ 40) × (b ≢ 41) × (b ≢ 10)) d ds here (named_bytes ds h.1)

text_bytes : (ds : List ℕ) → AllDigits 10 ds → All (λ (b : ℕ). (b ≢ 124) × (b ≢ 10)) ds
text_bytes [] all = λ i d lt. absurd (omega arith)
text_bytes (d ∷ ds) all =
    let h = tells_digits.parts d ds all in
    let low = h.0.0 in
    let high = h.0.1 in
    let here : (d ≢ 124) × (d ≢ 10) = ((λ e. omega arith), (λ e. omega arith)) in
    All-cons (λ (b : ℕ). (b ≢ 124) × (b ≢ 10)) d ds here (text_bytes ds h.1)

-- a letter and a number
pub lettered : (letter n : ℕ) → (letter ≢ 124) × (letter ≢ 40) × (letter ≢ 41) × (letter ≢ 10) → n < 10 ^ 64 → IsName (letter ∷ decimal n)
lettered letter n fine few =
    let short = number_short n few in
    (omega arith, omega arith, All-cons (λ (b : ℕ). (b ≢ 124) × (b ≢ 40) × (b ≢ 41) × (b ≢ 10)) letter (decimal n) fine (named_bytes (decimal n) (numeral n few).1))

pub number_text : (n : ℕ) → n < 10 ^ 64 → IsText (decimal n)
number_text n few = let short = number_short n few in (omega arith, text_bytes (decimal n) (numeral n few).1)

-- ---- words

-- whether each byte of a text is a blank or a small letter, as a test
abbrev pub tests_words : List ℕ → Bool
tests_words [] = true
tests_words (y ∷ ys) = (y == 32 || ltb 96 y) && tests_words ys

-- such a text lacks what is below the letters, and no blank
pub words_lack : (x : ℕ) (ys : List ℕ) → x < 48 → (x ≡ 32 → ⊥) → tests_words ys ≡ true → Lacks x ys
words_lack x [] low unblank e = tt
words_lack x (y ∷ ys) low unblank e =
    let both = and_parts (y == 32 || ltb 96 y) (tests_words ys) e in
    (go (y == 32) refl both.0, words_lack x ys low unblank both.1)
  where
    go : (b : Bool) → (y == 32) ≡ b → (b || ltb 96 y) ≡ true → y ≢ x
    go true is t same = unblank (sym same ∙ eqb-true y 32 is)
    go false is t same = let high = ltb-true 96 y t in omega arith

pub not_equal : (x y : ℕ) → (x ≢ y) → (x == y) ≡ false
not_equal x y apart = elim (eqb_tells x y) [ inl (e, is) ↦ absurd (apart is) | inr (e, is) ↦ e ]
