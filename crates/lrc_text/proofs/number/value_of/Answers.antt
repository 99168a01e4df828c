use Rattle.std.proofs.Common.{◌≡◌, ◌<◌, ◌≤◌, ◌*◌, ◌+◌, ℕ, List, length, take, get_or, Option, Some, None, MatchOption, arith, subst, rules, tests}
use Rattle.std.specs.Char.{digit_value}
use Rattle.std.specs.Str.Parse.{AllDigits, digits_value}
use Rattle.std.proofs.lemmas.Str.{digit_value_digit}
use Rattle.std.proofs.lemmas.List.{take_all}
use Rattle.std.proofs.lemmas.Str.Parse.{digit_at, digits_value-take-le}
use Rattle.std.proofs.lemmas.Int.Digits.{digits_more, digits_value_more}
use Rattle.lrc_text.specs.Digits.{IsNumber}
use Rattle.lrc_text.proofs.number.value_of.Goals as goal

-- a number that is too large with one digit more is too large with all
too_large : (digits : List ℕ) (i n : ℕ) → i < length digits → n ≡ digits_value 10 (take i digits)
    → 18446744073709551616 ≤ n * 10 + digit_value (get_or digits i 0)
    → (number : ℕ) → ¬ IsNumber digits 18446744073709551615 number
too_large digits i n lt is large number h =
    absurd (omega (arith, digits_value_more 10 digits i lt, digits_value-take-le 10 digits (i + 1) (omega arith), h.value, h.small))

pub returns-then-not-is_ascii_digit : goal.returns-then-not-is_ascii_digit
returns-then-not-is_ascii_digit c = λ number h.
    let in_range = digit_at c.args.digits.now c.loop-digit.digit-index h.numeral.1 c.loop-digit-test.true in
    absurd (search (rules, in_range, c.if-not-is_ascii_digit.ensures.cases))

none_is : (r : Option ℕ) (digits : List ℕ) → r ≡ None → ((number : ℕ) → ¬ IsNumber digits 18446744073709551615 number)
    → MatchOption r ((number : ℕ) → ¬ IsNumber digits 18446744073709551615 number) (IsNumber digits 18446744073709551615)
none_is None digits e h = h
none_is (Some n) digits e h = absurd cc

pub returns-in_err-checked_mul : goal.returns-in_err-checked_mul
returns-in_err-checked_mul c =
    let wide : ¬ (c.loop-digit.number * 10 < 18446744073709551616) = c.in_err-checked_mul.ensures in
    none_is _ c.args.digits.now c.from_residual.ensures
    (too_large c.args.digits.now c.loop-digit.digit-index c.loop-digit.number c.loop-digit-test.true c.loop-digit.invariant.value (omega arith))

pub returns-in_err-number : goal.returns-in_err-number
returns-in_err-number c =
    let digit = get_or c.args.digits.now c.loop-digit.digit-index 0 in
    let value : digit_value digit + 48 ≡ digit = digit_value_digit digit (search rules) in
    let wide : ¬ (c.in_ok-checked_mul.field-0 + c.from.result < 18446744073709551616) = c.in_err-number.ensures in
    none_is _ c.args.digits.now c.from_residual-in_err-number.ensures
    (too_large c.args.digits.now c.loop-digit.digit-index c.loop-digit.number c.loop-digit-test.true c.loop-digit.invariant.value
    (omega (arith, c.from.ensures, c.in_ok-checked_mul.ensures)))

pub loop-digit-preserved : goal.loop-digit-preserved
loop-digit-preserved c =
    let digit = get_or c.args.digits.now c.loop-digit.digit-index 0 in
    let value : digit_value digit + 48 ≡ digit = digit_value_digit digit (search rules) in
    record {
      decimal = digits_more 10 c.args.digits.now c.loop-digit.digit-index c.loop-digit-test.true c.loop-digit.invariant.decimal
          (c.if-not-is_ascii_digit.ensures.bound);
      value = omega (
        arith,
        digits_value_more 10 c.args.digits.now c.loop-digit.digit-index c.loop-digit-test.true,
        c.from.ensures,
        c.in_ok-checked_mul.ensures,
        c.in_ok-number.ensures,
      );
      small = omega (arith, c.in_ok-number.ensures);
    }

pub returns : goal.returns
returns c =
    let whole = take_all c.loop-digit.digit-index c.args.digits.now c.loop-digit-test.false in
    let some : 0 < length c.args.digits.now = search (rules, tests) in
    record {
      numeral = (some, subst (AllDigits 10) whole c.loop-digit.invariant.decimal);
      value = subst (λ (ds : List ℕ). c.loop-digit.number ≡ digits_value 10 ds) whole c.loop-digit.invariant.value;
      small = c.loop-digit.invariant.small;
    }
