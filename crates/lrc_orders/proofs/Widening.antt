-- Items of a list in which no two are equal.
use Rattle.std.proofs.Common.{◌≡◌, ℕ, ◌<◌, List, Bool, true, false, refl, subst}
use Rattle.std.specs.Prelude.{Some, get_or, slice_get}
use Rattle.std.specs.List.{IsDistinct}
use Rattle.std.proofs.lemmas.Map.Keys.{apart_from_distinct}
use Rattle.std.proofs.lemmas.Option.{get_or_from_slice_get, slice_get_within}

pub not_true : (a b : Bool) → a ≡ false → (b ≡ true → a ≡ true) → b ≡ false
not_true a false fails back = refl
not_true a true fails back = let yes = back refl in cc

-- items at two places of distinct ones are not equal
pub apart_in : {A : Type 0} (E : A → A → Bool) (xs : List A) (i j : ℕ) (x y : A) → IsDistinct E xs → slice_get xs i ≡ Some x → slice_get xs j ≡ Some y
    → i < j → E x y ≡ false
apart_in E xs i j x y distinct at there lt =
    let within = slice_get_within xs j y there in
    let apart = apart_from_distinct E xs i j x distinct lt within in
    subst (λ z. E x z ≡ false) (get_or_from_slice_get xs j y x there)
    (subst (λ z. E z (get_or xs j x) ≡ false) (get_or_from_slice_get xs i x x at) apart)
