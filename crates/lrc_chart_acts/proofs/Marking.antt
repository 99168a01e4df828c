-- Whether some element passes, by its place.
use Rattle.std.proofs.Common.{◌≡◌, ◌∙◌, ◌+◌, ◌||◌, ℕ, suc, List, [], ◌∷◌, Bool, true, false, cond, inl, inr, arith, length, not, refl, sym}
use Rattle.std.proofs.lemmas.Bool.{cases_lt, le-ltb, lt-ltb}
use Rattle.std.specs.Prelude.{Some, None, is_some, nat_lt}
use Rattle.std.specs.List.{list_any, position, position_or_len}

one_less : (n m : ℕ) → nat_lt (1 + n) (suc m) ≡ nat_lt n m
one_less n m =
    elim (cases_lt n m) [
      | inl less ↦ lt-ltb (1 + n) (suc m) (omega (arith, less)) ∙ sym (lt-ltb n m less)
      | inr past ↦ le-ltb (1 + n) (suc m) (omega (arith, past)) ∙ sym (le-ltb n m past)
    ]

-- the first element passes, or some later one
first_or : (b r : Bool) (n m : ℕ) → nat_lt n m ≡ r → nat_lt (cond (not b) (1 + n) 0) (suc m) ≡ (b || r)
first_or true r n m is = lt-ltb 0 (suc m) (omega arith)
first_or false r n m is = one_less n m ∙ is

passes : {X : Type 0} (p : X → Bool) (xs : List X) → nat_lt (position_or_len p xs) (length xs) ≡ list_any p xs
passes p [] = refl
passes p (x ∷ xs) = first_or (p x) (list_any p xs) (position_or_len p xs) (length xs) (passes p xs)

some_if : (b : Bool) (n : ℕ) → is_some (cond b (Some n) None) ≡ b
some_if true n = refl
some_if false n = refl

pub is_some-position : {X : Type 0} (p : X → Bool) (xs : List X) → is_some (position p xs) ≡ list_any p xs
is_some-position p xs = some_if (nat_lt (position_or_len p xs) (length xs)) (position_or_len p xs) ∙ passes p xs
