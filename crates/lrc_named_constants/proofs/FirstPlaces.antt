-- The first place that passes a test, as a loop finds it.
use Rattle.std.proofs.Common.{◌≡◌, ℕ, ◌<◌, Bool, true, false, Some, List, map, length, get_or, sym, ap, ◌∙◌, arith}
use Rattle.std.specs.Prelude.{option_map}
use Rattle.std.specs.List.{position_or_len}
use Rattle.std.proofs.lemmas.Option.{slice_get-map, slice_get-get_or, get_or_from_slice_get}
use Rattle.std.proofs.lemmas.List.{length-map}
use Rattle.std.proofs.lemmas.List.Sums.{position_or_len_is}

-- an element, seen so
pub seen_at : {A B : Type 0} (f : A → B) (xs : List A) (i : ℕ) (x : A) (d : B) → i < length xs → x ≡ get_or xs i x → get_or (map f xs) i d ≡ f x
seen_at f xs i x d lt is =
    get_or_from_slice_get (map f xs) i (f x) d
    (slice_get-map f xs i ∙ ap (option_map f) (slice_get-get_or xs i x lt) ∙ ap (λ y. Some (f y)) (sym is))

-- a place that passes, where none before it does
pub first_place : {A B : Type 0} (f : A → B) (p : B → Bool) (xs : List A) (i : ℕ) (x : A) → i < length xs → x ≡ get_or xs i x
    → ((k : ℕ) → k < i → (d : B) → p (get_or (map f xs) k d) ≡ false) → p (f x) ≡ true → i ≡ position_or_len p (map f xs)
first_place f p xs i x lt is before here =
    let same = length-map xs f in
    sym (position_or_len_is p (map f xs) i (f x) (omega (arith, same)) (λ k below. before k below (f x)) (λ within. ap p (seen_at f xs i x (f x) lt is) ∙ here))

-- none that passes
pub no_place : {A B : Type 0} (f : A → B) (p : B → Bool) (xs : List A) (d : B)
    → ((k : ℕ) → k < length xs → (e : B) → p (get_or (map f xs) k e) ≡ false) → length xs ≡ position_or_len p (map f xs)
no_place f p xs d before =
    let same = length-map xs f in
    sym (position_or_len_is p (map f xs) (length xs) d (omega (arith, same)) (λ k below. before k below d) (λ within. absurd (omega (arith, same))))
