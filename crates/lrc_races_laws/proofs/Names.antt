-- The number of a name, as a function.
use Rattle.std.proofs.Common.{◌≡◌, ◌≢◌, ℕ, zero, suc, ◌==◌, ◌&&◌, Bool, true, false, cond, List, [], ◌∷◌, sym, refl, ◌∙◌, ap, ap₂, arith}
use Rattle.std.specs.Prelude.{Some, AllPairs, slice_get}
use Rattle.std.proofs.lemmas.Bool.{false≢true, eqb-true, eq-eqb, and_parts}
use Rattle.std.proofs.lemmas.Option.{same_Some, slice_get_within, get_or_from_slice_get}
use Rattle.lrc_races_text.specs.Naming.{Numbers}

abbrev same_bytes : List ℕ → List ℕ → Bool
same_bytes [] [] = true
same_bytes (x ∷ xs) (y ∷ ys) = x == y && same_bytes xs ys
same_bytes [] (y ∷ ys) = false
same_bytes (x ∷ xs) [] = false

own_bytes : (xs : List ℕ) → same_bytes xs xs ≡ true
own_bytes [] = refl
own_bytes (x ∷ xs) = rw (eq-eqb x x refl, own_bytes xs) refl

bytes_same : (xs ys : List ℕ) → same_bytes xs ys ≡ true → xs ≡ ys
bytes_same [] [] e = refl
bytes_same [] (y ∷ ys) e = absurd (false≢true e)
bytes_same (x ∷ xs) [] e = absurd (false≢true e)
bytes_same (x ∷ xs) (y ∷ ys) e =
    let both = and_parts (x == y) (same_bytes xs ys) e in
    ap₂ (λ (z : ℕ) (zs : List ℕ). z ∷ zs) (eqb-true x y both.0) (bytes_same xs ys both.1)

-- how many names stand before this one
abbrev pub place_of : List (List ℕ) → List ℕ → ℕ
place_of [] name = 0
place_of (x ∷ xs) name = cond (same_bytes x name) 0 (suc (place_of xs name))

rest_distinct : (x : List ℕ) (xs : List (List ℕ)) → AllPairs (λ x y. x ≢ y) (x ∷ xs) → AllPairs (λ x y. x ≢ y) xs
rest_distinct x xs all i j d lt within = all (suc i) (suc j) d (omega arith) (omega arith)

place_at : (names : List (List ℕ)) (name : List ℕ) (n : ℕ) → AllPairs (λ x y. x ≢ y) names → slice_get names n ≡ Some name
    → place_of names name ≡ n
place_at [] name n distinct e = let never : ⊥ = cc in absurd never
place_at (x ∷ xs) name zero distinct e =
    let is : x ≡ name = same_Some x name e in
    ap (λ b. cond b 0 (suc (place_of xs name))) (ap (λ y. same_bytes y name) is ∙ own_bytes name)
place_at (x ∷ xs) name (suc n) distinct e =
    go (same_bytes x name) refl (place_at xs name n (rest_distinct x xs distinct) e)
  where
    go : (b : Bool) → same_bytes x name ≡ b → place_of xs name ≡ n → cond b 0 (suc (place_of xs name)) ≡ suc n
    go true same later =
        let is = bytes_same x name same in
        let within = slice_get_within xs n name e in
        absurd (distinct zero (suc n) name (omega arith) (omega arith) (is ∙ sym (get_or_from_slice_get xs n name name e)))
    go false same later = ap suc later

pub number_is : (names : List (List ℕ)) (name : List ℕ) (n : ℕ) → AllPairs (λ x y. x ≢ y) names → Numbers names name n → n ≡ place_of names name
number_is names name n distinct h = sym (place_at names name n distinct h.at)

-- what has one number is one name
pub one_name : (names : List (List ℕ)) (name other : List ℕ) (n m : ℕ) → Numbers names name n → Numbers names other m → n ≡ m → name ≡ other
one_name names name other n m a b e = same_Some name other (sym a.at ∙ ap (slice_get names) e ∙ b.at)
