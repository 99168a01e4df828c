-- Lists with equal items are alike, and an item of distinct ones stands at one place.
use Rattle.std.proofs.Common.{◌≡◌, ℕ, zero, suc, List, [], ◌∷◌, ◌&&◌, Bool, true, false, refl, subst, ap}
use Rattle.std.specs.Prelude.{Some, nat_eq, slice_get}
use Rattle.std.specs.List.{IsDistinct, AllByRecursion}
use Rattle.std.proofs.lemmas.Bool.{eq-eqb}
use Rattle.std.proofs.lemmas.Map.Keys.{IsDistinct-head, IsDistinct-tail}
use Rattle.std.proofs.lemmas.Option.{same_Some}
use lib.Pointwise.{pointwise}

pub both_true : (a b : Bool) → a ≡ true → b ≡ true → (a && b) ≡ true
both_true true b e f = f
both_true false b e f = cc

pub nat_itself : (n : ℕ) → nat_eq n n ≡ true
nat_itself n = eq-eqb n n refl

each_itself : {A : Type 0} (E : A → A → Bool) → ((a : A) → E a a ≡ true) → (xs : List A) → pointwise E xs xs ≡ true
each_itself E same [] = refl
each_itself E same (x ∷ xs) = both_true (E x x) (pointwise E xs xs) (same x) (each_itself E same xs)

pub equal_items : {A : Type 0} (E : A → A → Bool) → ((a : A) → E a a ≡ true) → (xs ys : List A) → xs ≡ ys → pointwise E xs ys ≡ true
equal_items E same xs ys e = subst (λ l. pointwise E xs l ≡ true) e (each_itself E same xs)

-- an item that is equal to one at a place of the rest
not_later : {A : Type 0} (E : A → A → Bool) (x y : A) (ks : List A) (j : ℕ) → AllByRecursion (λ z. E x z ≡ false) ks → slice_get ks j ≡ Some y
    → E x y ≡ true → ⊥
not_later E x y [] j all at e = cc
not_later E x y (k ∷ ks) zero all at e =
    let is : k ≡ y = same_Some k y at in
    let no : E x y ≡ false = subst (λ z. E x z ≡ false) is all.0 in
    cc
not_later E x y (k ∷ ks) (suc j) all at e = not_later E x y ks j all.1 at e

-- of distinct items two that are equal, either way round, stand at one place
pub one_place : {A : Type 0} (E : A → A → Bool) (ks : List A) → IsDistinct E ks → (i j : ℕ) (x y : A) → slice_get ks i ≡ Some x → slice_get ks j ≡ Some y
    → E x y ≡ true → E y x ≡ true → i ≡ j
one_place E [] d i j x y at there e f = cc
one_place E (k ∷ ks) d zero zero x y at there e f = refl
one_place E (k ∷ ks) d zero (suc j) x y at there e f =
    absurd (not_later E x y ks j (subst (λ z. AllByRecursion (λ w. E z w ≡ false) ks) (same_Some k x at) (IsDistinct-head E k ks d)) there e)
one_place E (k ∷ ks) d (suc i) zero x y at there e f =
    absurd (not_later E y x ks i (subst (λ z. AllByRecursion (λ w. E z w ≡ false) ks) (same_Some k y there) (IsDistinct-head E k ks d)) at f)
one_place E (k ∷ ks) d (suc i) (suc j) x y at there e f = ap suc (one_place E ks (IsDistinct-tail E k ks d) i j x y at there e f)
