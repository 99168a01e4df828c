-- What is in a list.
use Rattle.std.proofs.Common.{◌≡◌, ℕ, zero, suc, ◌≤◌, ◌⊎◌, inl, inr, Bool, true, false, cond, List, [], ◌∷◌, ◌++◌, map, filter, drop, refl, sym, ap, ◌∙◌, arith}
use Rattle.std.specs.Prelude.{Some, option_map, slice_get, remove, flat_map}
use Rattle.std.proofs.lemmas.Option.{slice_get-map}

-- the element stands at some place
abbrev pub IsIn : {X : Type 0} → X → List X → Type 0
IsIn x xs = (place : ℕ) × (slice_get xs place ≡ Some x)

one_further : {X : Type 0} (x y : X) (xs : List X) → IsIn x xs → IsIn x (y ∷ xs)
one_further x y xs (place, at) = (suc place, at)

pub in_left : {X : Type 0} (xs ys : List X) (x : X) → (place : ℕ) → slice_get xs place ≡ Some x → IsIn x (xs ++ ys)
in_left [] ys x place at = cc
in_left (z ∷ xs) ys x zero at = (0, at)
in_left (z ∷ xs) ys x (suc place) at = one_further x z (xs ++ ys) (in_left xs ys x place at)

pub in_right : {X : Type 0} (xs ys : List X) (x : X) → IsIn x ys → IsIn x (xs ++ ys)
in_right [] ys x i = i
in_right (z ∷ xs) ys x i = one_further x z (xs ++ ys) (in_right xs ys x i)

pub in_either : {X : Type 0} (xs ys : List X) (x : X) (place : ℕ) → slice_get (xs ++ ys) place ≡ Some x → IsIn x xs ⊎ IsIn x ys
in_either [] ys x place at = inr (place, at)
in_either (z ∷ xs) ys x zero at = inl (0, at)
in_either (z ∷ xs) ys x (suc place) at = elim (in_either xs ys x place at) [
  | inl i ↦ inl (one_further x z xs i)
  | inr i ↦ inr i
]

-- ---- what passes a test

put_before : {X : Type 0} (b : Bool) (x y : X) (ys : List X) → IsIn x ys → IsIn x (cond b (y ∷ ys) ys)
put_before true x y ys i = one_further x y ys i
put_before false x y ys i = i

pub in_filter : {X : Type 0} (test : X → Bool) (xs : List X) (x : X) (place : ℕ) → slice_get xs place ≡ Some x → test x ≡ true → IsIn x (filter test xs)
in_filter test [] x place at passes = cc
in_filter test (y ∷ xs) x zero at passes =
    let same : y ≡ x = cc in
    let holds : test y ≡ true = ap test same ∙ passes in
    (0, ap (λ b. slice_get (cond b (y ∷ filter test xs) (filter test xs)) 0) holds ∙ at)
in_filter test (y ∷ xs) x (suc place) at passes = put_before (test y) x y (filter test xs) (in_filter test xs x place at passes)

pub of_filter : {X : Type 0} (test : X → Bool) (xs : List X) (x : X) (place : ℕ) → slice_get (filter test xs) place ≡ Some x
    → IsIn x xs × (test x ≡ true)
of_filter test [] x place at = cc
of_filter test (y ∷ xs) x place at = go (of_filter test xs x) (test y) refl place at
  where
    further : IsIn x xs × (test x ≡ true) → IsIn x (y ∷ xs) × (test x ≡ true)
    further (i, passes) = (one_further x y xs i, passes)

    go : ((p : ℕ) → slice_get (filter test xs) p ≡ Some x → IsIn x xs × (test x ≡ true)) → (b : Bool) → test y ≡ b
        → (p : ℕ) → slice_get (cond b (y ∷ filter test xs) (filter test xs)) p ≡ Some x → IsIn x (y ∷ xs) × (test x ≡ true)
    go rest true e zero a = let same : y ≡ x = cc in ((0, a), ap test (sym same) ∙ e)
    go rest true e (suc p) a = further (rest p a)
    go rest false e p a = further (rest p a)

-- ---- what a function makes

pub in_map : {X Y : Type 0} (f : X → Y) (xs : List X) (x : X) (place : ℕ) → slice_get xs place ≡ Some x → slice_get (map f xs) place ≡ Some (f x)
in_map f xs x place at = slice_get-map f xs place ∙ ap (option_map f) at

pub of_map : {X Y : Type 0} (f : X → Y) (xs : List X) (y : Y) (place : ℕ) → slice_get (map f xs) place ≡ Some y
    → (x : X) × (slice_get xs place ≡ Some x) × (f x ≡ y)
of_map f [] y place at = cc
of_map f (x ∷ xs) y zero at = (x, refl, (let same : f x ≡ y = cc in same))
of_map f (x ∷ xs) y (suc place) at = of_map f xs y place at

pub of_flat : {X Y : Type 0} (f : X → List Y) (xs : List X) (y : Y) (place : ℕ) → slice_get (flat_map f xs) place ≡ Some y
    → (x : X) × (k : ℕ) × (slice_get xs k ≡ Some x) × IsIn y (f x)
of_flat f [] y place at = cc
of_flat f (x ∷ xs) y place at = elim (in_either (f x) (flat_map f xs) y place at) [
  | inl i ↦ (x, 0, refl, i)
  | inr i ↦ (let rest = of_flat f xs y i.0 i.1 in (rest.0, suc rest.1, rest.2, rest.3))
]

-- ---- what is left

pub stays_in : {X : Type 0} (xs : List X) (p q : ℕ) (x : X) → slice_get xs p ≡ Some x → (p ≡ q → ⊥) → IsIn x (remove xs q)
stays_in [] p q x at ne = cc
stays_in (y ∷ xs) zero zero x at ne = absurd (ne refl)
stays_in (y ∷ xs) (suc p) zero x at ne = (p, at)
stays_in (y ∷ xs) zero (suc q) x at ne = (0, at)
stays_in (y ∷ xs) (suc p) (suc q) x at ne = one_further x y (remove xs q) (stays_in xs p q x at (λ e. ne (ap suc e)))

pub in_drop : {X : Type 0} (xs : List X) (n k : ℕ) (x : X) → slice_get xs k ≡ Some x → n ≤ k → IsIn x (drop n xs)
in_drop xs zero k x at le = (k, at)
in_drop [] (suc n) k x at le = cc
in_drop (y ∷ xs) (suc n) zero x at le = absurd (omega (arith, le))
in_drop (y ∷ xs) (suc n) (suc k) x at le = in_drop xs n k x at (omega (arith, le))
