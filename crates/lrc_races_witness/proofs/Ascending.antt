-- Ascending lists with the same elements are the same.
use Rattle.std.proofs.Common.{◌≡◌, ℕ, zero, suc, ◌<◌, List, [], ◌∷◌, inl, inr, refl, sym, subst, ap, ◌∙◌, arith}
use Rattle.std.specs.Prelude.{◌⊎◌, AllPairs, Contains}

abbrev pub Ascends : List ℕ → Type 0
Ascends xs = AllPairs (λ p q. p < q) xs

ascends-tail : (x : ℕ) (xs : List ℕ) → Ascends (x ∷ xs) → Ascends xs
ascends-tail x xs h i j d lt within = h (suc i) (suc j) d (omega arith) (omega arith)

ascends-head : (x : ℕ) (xs : List ℕ) → Ascends (x ∷ xs) → (p : ℕ) → Contains xs p → x < p
ascends-head x xs h p (k, lt, is) = subst (λ m. x < m) is (h zero (suc k) p (omega arith) (omega arith))

first_or : (x p : ℕ) (xs : List ℕ) → Contains (x ∷ xs) p → (x ≡ p) ⊎ Contains xs p
first_or x p xs (zero, lt, is) = inl is
first_or x p xs (suc k, lt, is) = inr (k, omega arith, is)

first_in : (x : ℕ) (xs : List ℕ) → Contains (x ∷ xs) x
first_in x xs = (zero, omega arith, refl)

later_in : (x p : ℕ) (xs : List ℕ) → Contains xs p → Contains (x ∷ xs) p
later_in x p xs (k, lt, is) = (suc k, omega arith, is)

same_heads : (x y : ℕ) (xs ys : List ℕ) → Ascends (x ∷ xs) → Ascends (y ∷ ys) → Contains (y ∷ ys) x → Contains (x ∷ xs) y → x ≡ y
same_heads x y xs ys a b f g =
    elim (first_or y x ys f) [
      | inl same ↦ sym same
      | inr later ↦
          elim (first_or x y xs g) [
            | inl same ↦ same
            | inr later' ↦
                let above = ascends-head y ys b x later in
                let below = ascends-head x xs a y later' in
                absurd (omega arith)
          ]
    ]

rest_in : (x y : ℕ) (xs ys : List ℕ) → Ascends (x ∷ xs) → x ≡ y → ((p : ℕ) → Contains (x ∷ xs) p → Contains (y ∷ ys) p) → (p : ℕ) → Contains xs p
    → Contains ys p
rest_in x y xs ys a same f p has =
    elim (first_or y p ys (f p (later_in x p xs has))) [
      | inl first ↦ let above = ascends-head x xs a p has in absurd (omega arith)
      | inr later ↦ later
    ]

pub same_lists : (xs ys : List ℕ) → Ascends xs → Ascends ys → ((p : ℕ) → Contains xs p → Contains ys p)
    → ((p : ℕ) → Contains ys p → Contains xs p) → xs ≡ ys
same_lists [] [] a b f g = refl
same_lists [] (y ∷ ys) a b f g = let (k, lt, is) = g y (first_in y ys) in absurd (omega arith)
same_lists (x ∷ xs) [] a b f g = let (k, lt, is) = f x (first_in x xs) in absurd (omega arith)
same_lists (x ∷ xs) (y ∷ ys) a b f g =
    let same = same_heads x y xs ys a b (f x (first_in x xs)) (g y (first_in y ys)) in
    ap (λ m. m ∷ xs) same
    ∙ ap (λ zs. y ∷ zs) (same_lists xs ys (ascends-tail x xs a) (ascends-tail y ys b) (rest_in x y xs ys a same f) (rest_in y x ys xs b (sym same) g))
