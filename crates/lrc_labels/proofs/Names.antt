-- Names and numbers of label lines.
use Rattle.std.proofs.Common.{◌≡◌, ℕ, Bool, true, false, cond, arith, List, [], ◌∷◌, refl, Some, None, ◌↔◌, rules, tests}
use Rattle.std.specs.Char.{is_ascii_digit}
use Rattle.std.specs.Int.{IsInRange}
use Rattle.std.specs.List.{list_all}
use Rattle.std.specs.Prelude.{nat_lt}
use Rattle.std.specs.Str.Parse.{IsNumeral, AllDigits, digits_value}
use Rattle.std.proofs.Math.Bool.{and-eq-true_iff}
use Rattle.std.proofs.lemmas.Bool.Decides.{nat_tests}
use Rattle.std.specs.Cmp.Derive.{both_true}
use Rattle.std.proofs.lemmas.Str.{digit_value_digit}
use Rattle.std.proofs.lemmas.Str.Parse.{digit_from_value}
use borrow.Author.Tests.{ltb-true}
use Rattle.lrc_text.specs.Digits.{IsNumber}
use Rattle.lrc_labels.specs.Name.{is_letter, is_numeral}
use Rattle.lrc_lang.specs.Lexemes.{IsLetter}

in_range : (byte : ℕ) → is_ascii_digit byte ≡ true → IsInRange 48 57 byte
in_range byte h = grind (arith, nat_tests)

is_digit_in : (byte : ℕ) → IsInRange 48 57 byte → is_ascii_digit byte ≡ true
is_digit_in byte h = grind (arith, nat_tests)

digits_from : (digits : List ℕ) → list_all is_ascii_digit digits ≡ true → AllDigits 10 digits
digits_from [] h = tt {0}
digits_from (digit ∷ digits) h =
    let both = (and-eq-true_iff (is_ascii_digit digit) (list_all is_ascii_digit digits)).0 h in
    let range = in_range digit both.0 in
    (omega (arith, digit_value_digit digit range, range.0, range.1), digits_from digits both.1)

digits_are : (digits : List ℕ) → AllDigits 10 digits → list_all is_ascii_digit digits ≡ true
digits_are [] h = refl
digits_are (digit ∷ digits) h = both_true (is_digit_in digit (digit_from_value digit h.0)) (digits_are digits h.1)

pub numeral_from : (bytes : List ℕ) → is_numeral bytes ≡ true → IsNumeral 10 bytes
numeral_from [] h = absurd (cc)
numeral_from (byte ∷ bytes) h = (omega arith, digits_from (byte ∷ bytes) h)

pub numeral_is : (bytes : List ℕ) → IsNumeral 10 bytes → is_numeral bytes ≡ true
numeral_is [] h = absurd (omega (arith, h.0))
numeral_is (byte ∷ bytes) h = digits_are (byte ∷ bytes) h.1

-- no number up to the limit is written, so none below it
pub none_below : (digits : List ℕ) (limit : ℕ) → is_numeral digits ≡ true → ((number : ℕ) → ¬ IsNumber digits limit number)
    → None ≡ cond (nat_lt (digits_value 10 digits) limit) (Some (digits_value 10 digits)) None
none_below digits limit numeral none = tested (nat_lt (digits_value 10 digits) limit) refl
  where
    tested : (b : Bool) → nat_lt (digits_value 10 digits) limit ≡ b → None ≡ cond b (Some (digits_value 10 digits)) None
    tested true h =
        absurd (none (digits_value 10 digits)
        (record { numeral = numeral_from digits numeral; value = refl; small = omega (arith, ltb-true _ _ h) }))
    tested false h = refl

pub letter_iff : (byte : ℕ) → (is_letter byte ≡ true) ↔ IsLetter byte
letter_iff byte = search (rules, tests)
