-- Numbers that digits write, no greater than another.
use Rattle.std.proofs.Common.{◌<◌, ◌≤◌, ℕ, List, arith, sym}
use Rattle.std.specs.Prelude.{decimal}
use Rattle.std.proofs.lemmas.Fmt.{decimal_is_IsNumeral}
use Rattle.lrc_text.specs.Digits.{IsNumber}

abbrev pub IsAnyNumber : List ℕ → ℕ → Type 0
IsAnyNumber digits number = IsNumber digits 18446744073709551615 number

pub no_greater : (digits : List ℕ) (greatest number : ℕ) → IsAnyNumber digits number → number ≤ greatest → IsNumber digits greatest number
no_greater digits greatest number h le = record { numeral = h.numeral; value = h.value; small = le }

pub too_great : (digits : List ℕ) (greatest number : ℕ) → IsAnyNumber digits number → greatest < number → (other : ℕ) → ¬ IsNumber digits greatest other
too_great digits greatest number h lt other k = omega (arith, h.value, k.value, k.small, lt)

pub no_number : (digits : List ℕ) (greatest : ℕ) → greatest < 18446744073709551616 → ((number : ℕ) → ¬ IsAnyNumber digits number) → (other : ℕ)
    → ¬ IsNumber digits greatest other
no_number digits greatest small none other k =
    none other (record { numeral = k.numeral; value = k.value; small = omega (arith, k.small, small) })

-- the decimal digits of a number write it
pub decimal_is_number : (n greatest : ℕ) → n ≤ greatest → greatest ≤ 18446744073709551615 → IsNumber (decimal n) greatest n
decimal_is_number n greatest h k =
    let is = decimal_is_IsNumeral n (omega (arith, h, k)) in
    record { numeral = is.0; value = sym is.1; small = h }
