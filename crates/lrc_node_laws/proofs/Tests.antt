-- What tests of lists say of each element.
use Rattle.std.proofs.Common.{◌≡◌, ℕ, zero, suc, ◌+◌, ◌<◌, ◌≤◌, List, [], ◌∷◌, Bool, true, refl, subst, inl, inr, arith}
use Rattle.std.specs.Prelude.{All, ◌==◌}
use Rattle.std.specs.List.{list_all, range_with_len}
use Rattle.std.proofs.lemmas.Bool.{and_parts, cases_eq, eqb-true}
use Rattle.std.proofs.lemmas.List.Elements.{All-nil, All-cons}
use lib.Pointwise.{pointwise}

pub each_passes : {X : Type 0} (test : X → Bool) (P : X → Type 0) → ((x : X) → test x ≡ true → P x) → (xs : List X) → list_all test xs ≡ true → All P xs
each_passes test P says [] e = All-nil P
each_passes test P says (x ∷ xs) e =
    let parts : (test x ≡ true) × (list_all test xs ≡ true) = and_parts _ _ e in
    All-cons P x xs (says x parts.0) (each_passes test P says xs parts.1)

-- what passes at each number of a range
range_passes : (test : ℕ → Bool) (a n : ℕ) → list_all test (range_with_len a n) ≡ true → (q : ℕ) → a ≤ q → q < a + n → test q ≡ true
range_passes test a zero e q low high = absurd (omega arith)
range_passes test a (suc n) e q low high =
    let parts : (test a ≡ true) × (list_all test (range_with_len (a + 1) n) ≡ true) = and_parts _ _ e in
    elim (cases_eq a q) [
      | inl same ↦ subst (λ k. test k ≡ true) same parts.0
      | inr other ↦ range_passes test (a + 1) n parts.1 q (omega arith) (omega arith)
    ]

pub in_range : (test : ℕ → Bool) (n : ℕ) → list_all test (range_with_len 0 n) ≡ true → (q : ℕ) → q < n → test q ≡ true
in_range test n e q lt = range_passes test 0 n e q (omega arith) (omega arith)

pub same_numbers : (xs ys : List ℕ) → pointwise ◌==◌ xs ys ≡ true → xs ≡ ys
same_numbers [] [] e = refl
same_numbers [] (y ∷ ys) e = cc
same_numbers (x ∷ xs) [] e = cc
same_numbers (x ∷ xs) (y ∷ ys) e =
    let parts : ((x == y) ≡ true) × (pointwise ◌==◌ xs ys ≡ true) = and_parts _ _ e in
    let first : x ≡ y = eqb-true x y parts.0 in
    let rest : xs ≡ ys = same_numbers xs ys parts.1 in
    cc
