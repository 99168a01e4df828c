-- The first element that passes a test, and what stands behind it.
use Rattle.std.proofs.Common.{◌≡◌, ℕ, zero, suc, ◌+◌, ◌-◌, ◌<◌, Bool, true, false, cond, not, List, []}
use Rattle.std.proofs.Common.{◌∷◌, length, filter, take, drop, refl, sym, ap, ◌∙◌, arith}
use Rattle.std.specs.Prelude.{Option, Some, None, is_some, filter_map, position, nat_lt, slice_index_or}
use Rattle.std.specs.List.{position_or_len, cons_option}
use Rattle.std.proofs.lemmas.Bool.{ltb-false, le-ltb}
use Rattle.std.proofs.Math.Seq.{take-length}
use Rattle.std.proofs.lemmas.List.{length-drop}
use Rattle.std.proofs.lemmas.List.Quantifiers.{position-Some}
use Rattle.lrc_post.specs.declared.parcel.Wire.{Wire}
use Rattle.lrc_weave.specs.Matched.{place_taken}
use Rattle.lrc_weave.specs.Compared.{IsNextTake, is_take}

module _ {X : Type 0} (p : X → Bool) where
  kept_from : (xs : List X) (i : ℕ) (d : X) → i < length xs → p (slice_index_or xs i d) ≡ true → ((k : ℕ) → k < i → p (slice_index_or xs k d) ≡ false)
      → filter p xs ≡ slice_index_or xs i d ∷ filter p (drop (suc i) xs)
  kept_from [] i d lt here before = absurd (omega (arith, lt))
  kept_from (x ∷ xs) zero d lt here before = ap (λ b. cond b (x ∷ filter p xs) (filter p xs)) here
  kept_from (x ∷ xs) (suc i) d lt here before =
      ap (λ b. cond b (x ∷ filter p xs) (filter p xs)) (before 0 (omega arith))
      ∙ kept_from xs i d (omega (arith, lt)) here (λ k less. before (suc k) (omega (arith, less)))

  -- what passes begins with the first
  pub first_kept : (xs : List X) (i : ℕ) (d : X) → position p xs ≡ Some i → filter p xs ≡ slice_index_or xs i d ∷ filter p (drop (i + 1) xs)
  first_kept xs i d at =
      let f = position-Some p xs i d at in
      let next : suc i ≡ i + 1 = omega arith in
      kept_from xs i d f.0 f.1 f.2 ∙ ap (λ k. slice_index_or xs i d ∷ filter p (drop k xs)) next

  past_by : (x : X) (xs : List X) → (nat_lt (position_or_len p xs) (length xs) ≡ false → filter p xs ≡ []) → (b : Bool)
      → nat_lt (cond (not b) (1 + position_or_len p xs) 0) (suc (length xs)) ≡ false → cond b (x ∷ filter p xs) (filter p xs) ≡ []
  past_by x xs rest true f = absurd (omega (arith, ltb-false 0 (suc (length xs)) f))
  past_by x xs rest false f =
      rest (le-ltb (position_or_len p xs) (length xs) (omega (arith, ltb-false (1 + position_or_len p xs) (suc (length xs)) f)))

  past : (xs : List X) → nat_lt (position_or_len p xs) (length xs) ≡ false → filter p xs ≡ []
  past [] e = refl
  past (x ∷ xs) e = past_by x xs (past xs) (p x) e

  not_some : (b : Bool) (i : ℕ) → cond b (Some i) None ≡ None → b ≡ false
  not_some true i e = cc
  not_some false i e = refl

  -- nothing passes
  pub none_kept : (xs : List X) → position p xs ≡ None → filter p xs ≡ []
  none_kept xs none = past xs (not_some (nat_lt (position_or_len p xs) (length xs)) (position_or_len p xs) none)

-- all that stands from a place on
pub whole_rest : {X : Type 0} (xs : List X) (k : ℕ) → take (length xs - k) (drop k xs) ≡ drop k xs
whole_rest xs k = ap (λ n. take n (drop k xs)) (sym (length-drop k xs)) ∙ take-length (drop k xs)

-- what a function gives of elements is what it gives of those where it gives something
module _ {X Y : Type 0} (f : X → Option Y) where
  abbrev there : X → Bool
  there x = is_some (f x)

  given_by : (x : X) (xs : List X) → filter_map f xs ≡ filter_map f (filter there xs) → (o : Option Y) → f x ≡ o
      → cons_option o (filter_map f xs) ≡ filter_map f (cond (is_some o) (x ∷ filter there xs) (filter there xs))
  given_by x xs rest None e = rest
  given_by x xs rest (Some y) e = ap (λ ys. y ∷ ys) rest ∙ ap (λ o. cons_option o (filter_map f (filter there xs))) (sym e)

  pub given_of_kept : (xs : List X) → filter_map f xs ≡ filter_map f (filter there xs)
  given_of_kept [] = refl
  given_of_kept (x ∷ xs) = given_by x xs (given_of_kept xs) (f x) refl

  -- it begins with what it gives of the first
  pub first_given : (xs : List X) (i : ℕ) (d : X) (o : Option Y) → position there xs ≡ Some i → f (slice_index_or xs i d) ≡ o
      → filter_map f xs ≡ cons_option o (filter_map f (drop (i + 1) xs))
  first_given xs i d o at is =
      given_of_kept xs ∙ ap (filter_map f) (first_kept there xs i d at)
      ∙ ap (λ x. cons_option x (filter_map f (filter there (drop (i + 1) xs)))) is
      ∙ ap (cons_option o) (sym (given_of_kept (drop (i + 1) xs)))

  pub first_there : (xs : List X) (i : ℕ) (d : X) → position there xs ≡ Some i → is_some (f (slice_index_or xs i d)) ≡ true
  first_there xs i d at = (position-Some there xs i d at).1

  pub none_given : (xs : List X) → position there xs ≡ None → filter_map f xs ≡ []
  none_given xs none = given_of_kept xs ∙ ap (filter_map f) (none_kept there xs none)

-- ---- histories

pub take_next : (history rest : List Wire) (i : ℕ) (d : Wire) (o : Option ℕ) → position is_take history ≡ Some i
    → o ≡ place_taken (slice_index_or history i d) → rest ≡ drop (i + 1) history → IsNextTake history rest o
take_next history rest i d o at is left = go o (sym is)
  where
    go : (x : Option ℕ) → place_taken (slice_index_or history i d) ≡ x → IsNextTake history rest x
    go None e = let yes = first_there place_taken history i d at in cc
    go (Some place) e =
        first_given place_taken history i d (Some place) at e ∙ ap (λ xs. place ∷ filter_map place_taken xs) (sym left)

pub no_take : (history rest : List Wire) → position is_take history ≡ None → IsNextTake history rest None
no_take history rest none = none_given place_taken history none
