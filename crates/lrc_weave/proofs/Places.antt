-- Places in lists.
use Rattle.std.proofs.Common.{◌≡◌, ℕ, zero, suc, ◌+◌, ◌<◌, false, true, List, [], ◌∷◌, ◌++◌, length, map, take, drop, refl, ap, ◌∙◌, arith}
use Rattle.std.specs.Prelude.{Option, Some, None, slice_get, slice_index_or}
use Rattle.std.proofs.lemmas.List.{take_more, drop_more}
use Rattle.std.proofs.lemmas.Option.{slice_get_within, slice_get_read, get_or_from_slice_get}

pub false_true : false ≡ true → ⊥
false_true e = cc

pub nothing : {A : Type 0} → false ≡ true → A
nothing e = absurd (false_true e)

pub head_is : {X : Type 0} (x y : X) (xs ys : List X) → x ∷ xs ≡ y ∷ ys → x ≡ y
head_is x y xs ys e = cc

pub tail_is : {X : Type 0} (x y : X) (xs ys : List X) → x ∷ xs ≡ y ∷ ys → xs ≡ ys
tail_is x y xs ys e = cc

pub some_same : {X : Type 0} (o : Option X) (x y : X) → o ≡ Some x → o ≡ Some y → x ≡ y
some_same o x y a b = cc

pub none_some : {X : Type 0} (o : Option X) (x : X) → o ≡ None → o ≡ Some x → ⊥
none_some o x a b = cc

-- the element that code reads at a place
pub read : {X : Type 0} (xs : List X) (k : ℕ) (x : X) → k < length xs → x ≡ slice_index_or xs k x → slice_get xs k ≡ Some x
read xs k x within is = slice_get_read xs (length xs) k x refl within is

pub taken_more : {X : Type 0} (xs : List X) (k : ℕ) (x : X) → slice_get xs k ≡ Some x → take (k + 1) xs ≡ take k xs ++ x ∷ []
taken_more xs k x at =
    take_more xs k x (slice_get_within xs k x at) ∙ ap (λ z. take k xs ++ z ∷ []) (get_or_from_slice_get xs k x x at)

pub dropped_less : {X : Type 0} (xs : List X) (k : ℕ) (x : X) → slice_get xs k ≡ Some x → drop k xs ≡ x ∷ drop (k + 1) xs
dropped_less xs k x at =
    drop_more xs k x (slice_get_within xs k x at) ∙ ap (λ z. z ∷ drop (k + 1) xs) (get_or_from_slice_get xs k x x at)

pub taken_all : {X : Type 0} (xs : List X) (k : ℕ) → slice_get xs k ≡ None → take k xs ≡ xs
taken_all [] zero at = refl
taken_all [] (suc k) at = refl
taken_all (y ∷ xs) zero at = cc
taken_all (y ∷ xs) (suc k) at = ap (λ zs. y ∷ zs) (taken_all xs k at)

-- where an inner list has an element, it is one of the lists
pub within_outer : {X : Type 0} (xss : List (List X)) (n k : ℕ) (x : X) → slice_get (slice_index_or xss n []) k ≡ Some x → n < length xss
within_outer [] n k x at = cc
within_outer (xs ∷ xss) zero k x at = omega arith
within_outer (xs ∷ xss) (suc n) k x at = omega (arith, within_outer xss n k x at)

pub mapped_is : {X Y : Type 0} (f : X → Y) (xs : List X) (ys : List Y) (d : Y) → length xs ≡ length ys
    → ((n : ℕ) → n < length ys → (x : X) × (slice_get xs n ≡ Some x) × (f x ≡ slice_index_or ys n d)) → map f xs ≡ ys
mapped_is f [] [] d e each = refl
mapped_is f [] (y ∷ ys) d e each = absurd (omega (arith, e))
mapped_is f (x ∷ xs) [] d e each = absurd (omega (arith, e))
mapped_is f (x ∷ xs) (y ∷ ys) d e each =
    let head = each 0 (omega arith) in
    let same : x ≡ head.0 = (let at : Some x ≡ Some head.0 = head.1 in cc) in
    ap (λ z. z ∷ map f xs) (ap f same ∙ head.2)
    ∙ ap (λ zs. y ∷ zs) (mapped_is f xs ys d (omega (arith, e)) (λ n lt. each (suc n) (omega (arith, lt))))
