-- Numbers in decimal digits.
use Rattle.std.specs.Prelude.{◌≡◌, ◌≤◌, ℕ, List}
use Rattle.std.specs.Str.Parse.{IsNumeral, digits_value}

-- one or more decimal digits, and nothing else, write this number, which is no greater than the greatest of its kind
pub record IsNumber (digits : List ℕ) (greatest number : ℕ) : Type 0 where
  pub numeral : IsNumeral 10 digits
  pub value : number ≡ digits_value 10 digits
  pub small : number ≤ greatest
