-- The first element of a list that passes a test, and a list in which one element is changed.
use Rattle.std.proofs.Common.{◌≡◌, ◌≢◌, ℕ, ◌<◌, ◌≤◌, Bool, false, Option, Some, None, List}
use Rattle.std.proofs.Common.{[], ◌∷◌, length, get_or, set, map, refl, ap, sym, ◌∙◌, ⊎_elim, arith}
use Rattle.std.specs.List.{find, position, position_or_len}
use Rattle.std.specs.Option.{is_some}
use Rattle.std.proofs.lemmas.Grind.{common_steps}
use Rattle.std.proofs.lemmas.Bool.{cases_eq}
use Rattle.std.proofs.lemmas.List.{same_lists, get_or-map, get_or-set_same, get_or-set_other, length-map, length-set}
use Rattle.std.proofs.lemmas.List.Folds.{find_at}
use Rattle.std.proofs.lemmas.List.Quantifiers.{position-Some}
use Rattle.std.proofs.lemmas.List.Sums.{fails_before_first}
use Rattle.std.proofs.lemmas.Option.{gets}

module _ {X : Type 0} where
  pub find-position : (p : X → Bool) (xs : List X) (i : ℕ) (d : X) → position p xs ≡ Some i
      → find p xs ≡ Some (get_or xs i d)
  find-position p xs i d found =
      let at = find_at p xs in
      let within : i < length xs = (position-Some p xs i d found).0 in
      let first : position_or_len p xs ≡ i = grind (arith, common_steps) in
      grind (arith, common_steps, gets)

  pub find-position_none : (p : X → Bool) (xs : List X) → position p xs ≡ None → find p xs ≡ None
  find-position_none p xs none =
      let at = find_at p xs in
      let past : length xs ≤ position_or_len p xs = grind (arith, common_steps) in
      grind (arith, common_steps, gets)

  is_some-found : (p : X → Bool) (xs : List X) (d : X) (place : Option ℕ) → position p xs ≡ place
      → is_some place ≡ is_some (find p xs)
  is_some-found p xs d None is = sym (ap is_some (find-position_none p xs is))
  is_some-found p xs d (Some i) is = sym (ap is_some (find-position p xs i d is))

  -- there is a place exactly where there is an element
  pub is_some-position : (p : X → Bool) (xs : List X) → is_some (position p xs) ≡ is_some (find p xs)
  is_some-position p [] = refl
  is_some-position p (x ∷ xs) = is_some-found p (x ∷ xs) x (position p (x ∷ xs)) refl

  pub fails-position_none : (p : X → Bool) (xs : List X) → position p xs ≡ None → (k : ℕ) (d : X)
      → k < length xs → p (get_or xs k d) ≡ false
  fails-position_none p xs none k d within =
      let past : length xs ≤ position_or_len p xs = grind (arith, common_steps) in
      fails_before_first p xs k d (omega arith)

  -- a list of which a function changes no element
  pub map_none : (f : X → X) (xs : List X)
      → ((k : ℕ) (d : X) → k < length xs → f (get_or xs k d) ≡ get_or xs k d) → map f xs ≡ xs
  map_none f xs same =
      same_lists (map f xs) xs (length-map xs f)
      (λ k d within.
      let inside : k < length xs = omega (arith, length-map xs f) in
      get_or-map f xs k d d inside ∙ same k d inside)

  -- a list of which a function changes one element
  pub map_one : (f : X → X) (xs : List X) (i : ℕ) (y : X)
      → ((d : X) → i < length xs → f (get_or xs i d) ≡ y)
      → ((k : ℕ) (d : X) → k < length xs → k ≢ i → f (get_or xs k d) ≡ get_or xs k d)
      → map f xs ≡ set xs i y
  map_one f xs i y here others =
      same_lists (map f xs) (set xs i y)
      (length-map xs f ∙ sym (length-set xs i y))
      (λ k d within.
      let inside : k < length xs = omega (arith, length-map xs f) in
      ⊎_elim
      (λ (same : k ≡ i).
      let there : i < length xs = omega arith in
      let written : get_or (set xs i y) i d ≡ y = get_or-set_same xs i y d there in
      let mapped : get_or (map f xs) k d ≡ f (get_or xs k d) = get_or-map f xs k d d inside in
      let changed : f (get_or xs i d) ≡ y = here d there in
      cc)
      (λ (other : k ≢ i). get_or-map f xs k d d inside ∙ others k d inside other ∙ sym (get_or-set_other xs i k y d other))
      (cases_eq k i))
