-- An element that passes, and its place.
use Rattle.std.proofs.Common.{◌≡◌, ◌∙◌, ◌+◌, ◌||◌, ℕ, zero, suc, List, [], ◌∷◌, Bool, true, false, ap, arith, cond, inl, inr, length, not, refl, sym}
use Rattle.std.proofs.Math.Bool.{or-true}
use Rattle.std.proofs.lemmas.Bool.{cases_lt, le-ltb, lt-ltb}
use Rattle.std.specs.Prelude.{None, Some, is_some, nat_lt, option_map, slice_get, unwrap_or}
use Rattle.std.specs.List.{list_any, position, position_or_len}

-- the element at a place passes
abbrev pub passes_at : {X : Type 0} (p : X → Bool) (xs : List X) (place : ℕ) → Bool
passes_at p xs place = unwrap_or (option_map p (slice_get xs place)) false

pub some_passes : {X : Type 0} (p : X → Bool) (xs : List X) (place : ℕ) → passes_at p xs place ≡ true → list_any p xs ≡ true
some_passes p [] place is = absurd cc
some_passes p (x ∷ xs) zero is = ap (λ b. b || list_any p xs) is
some_passes p (x ∷ xs) (suc place) is = ap (λ b. p x || b) (some_passes p xs place is) ∙ or-true (p x)

-- ---- the first that passes

one_less : (n m : ℕ) → nat_lt (1 + n) (suc m) ≡ nat_lt n m
one_less n m =
    elim (cases_lt n m) [
      | inl less ↦ lt-ltb (1 + n) (suc m) (omega (arith, less)) ∙ sym (lt-ltb n m less)
      | inr past ↦ le-ltb (1 + n) (suc m) (omega (arith, past)) ∙ sym (le-ltb n m past)
    ]

first_or : (b r : Bool) (n m : ℕ) → nat_lt n m ≡ r → nat_lt (cond (not b) (1 + n) 0) (suc m) ≡ (b || r)
first_or true r n m is = lt-ltb 0 (suc m) (omega arith)
first_or false r n m is = one_less n m ∙ is

passes : {X : Type 0} (p : X → Bool) (xs : List X) → nat_lt (position_or_len p xs) (length xs) ≡ list_any p xs
passes p [] = refl
passes p (x ∷ xs) = first_or (p x) (list_any p xs) (position_or_len p xs) (length xs) (passes p xs)

some_if : (b : Bool) (n : ℕ) → is_some (cond b (Some n) None) ≡ b
some_if true n = refl
some_if false n = refl

pub first_is : {X : Type 0} (p : X → Bool) (xs : List X) → is_some (position p xs) ≡ list_any p xs
first_is p xs = some_if (nat_lt (position_or_len p xs) (length xs)) (position_or_len p xs) ∙ passes p xs
