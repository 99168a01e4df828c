-- Lists of exactly the positions of which something is so, one position more.
use Rattle.std.proofs.Common.{suc, zero, ◌≡◌, ℕ, ◌+◌, ◌<◌, ◌⊎◌, ◌++◌, List, [], ◌∷◌, length, get_or, inl, inr, refl, sym, subst, arith}
use Rattle.std.specs.Prelude.{Contains}
use Rattle.std.specs.List.{insert}
use Rattle.std.specs.List.Sorted.{IsStrictlyIncreasing}
use Rattle.std.proofs.lemmas.Bool.{cases_eq, cases_lt}
use Rattle.std.proofs.lemmas.List.{get_or_append_left, get_or_push, length_push}
use Rattle.std.proofs.lemmas.List.Elements.{Contains-push, Contains-push_cases, Contains-append_left, Contains-get_or}
use Rattle.lrc_why_chains.specs.Writes.{AreExactly}

increasing-push : (xs : List ℕ) (y : ℕ) → IsStrictlyIncreasing xs → ((x : ℕ) → Contains xs x → x < y) → IsStrictlyIncreasing (xs ++ y ∷ [])
increasing-push xs y old below k lt =
    let long = length_push xs y in
    elim (cases_lt (k + 1) (length xs)) [
      | inl inside ↦ rw (get_or_append_left xs (y ∷ []) 0 k (omega arith), get_or_append_left xs (y ∷ []) 0 (k + 1) inside) (old k inside)
      | inr past ↦ rw (get_or_append_left xs (y ∷ []) 0 k (omega arith), get_or_push xs y 0 (k + 1) (omega arith))
          (below (get_or xs k 0) (Contains-get_or xs k 0 (omega arith)))
    ]

increasing-cons : (xs : List ℕ) (y : ℕ) → IsStrictlyIncreasing xs → ((x : ℕ) → Contains xs x → y < x) → IsStrictlyIncreasing (y ∷ xs)
increasing-cons xs y old above zero lt = above (get_or xs 0 0) (Contains-get_or xs 0 0 (omega arith))
increasing-cons xs y old above (suc k) lt =
    let next : suc (k + 1) ≡ suc k + 1 = omega arith in
    subst (λ m. get_or xs k 0 < get_or (y ∷ xs) m 0) next (old k (omega (arith, lt)))

pub insert_front : (xs : List ℕ) (y : ℕ) → insert xs 0 y ≡ y ∷ xs
insert_front [] y = refl
insert_front (x ∷ xs) y = refl

-- the elements of a list with one more in front
pub front_cases : (xs : List ℕ) (y x : ℕ) → Contains (y ∷ xs) x → (x ≡ y) ⊎ Contains xs x
front_cases xs y x (zero, lt, is) = inl (sym is)
front_cases xs y x (suc k, lt, is) = inr (k, omega arith, is)

pub front_there : (xs : List ℕ) (y x : ℕ) → Contains xs x → Contains (y ∷ xs) x
front_there xs y x (k, lt, is) = (suc k, omega arith, is)

pub front_here : (xs : List ℕ) (y : ℕ) → Contains (y ∷ xs) y
front_here xs y = (0, omega arith, refl)

module _ (IsSo : ℕ → Type 0) where
  -- it is so of a position before n
  abbrev pub IsBelow : ℕ → ℕ → Type 0
  IsBelow n i = (i < n) × IsSo i

  pub below_none : (xs : List ℕ) → xs ≡ [] → AreExactly (IsBelow 0) xs
  below_none xs empty = rw empty (record {
    ascending = λ k lt. absurd (omega (arith, lt));
    exact = λ i. (λ (k, lt, is). absurd (omega (arith, lt)), λ (lt, so). absurd (omega (arith, lt)));
  })

  pub below_same : (xs : List ℕ) (n : ℕ) → (IsSo n → ⊥) → AreExactly (IsBelow n) xs → AreExactly (IsBelow (n + 1)) xs
  below_same xs n none old = record {
    ascending = old.ascending;
    exact = λ i. (
      λ h. let (lt, so) = (old.exact i).0 h in (omega arith, so),
      λ (lt, so). elim (cases_eq i n) [ inl same ↦ absurd (none (subst (λ m. IsSo m) same so)) | inr other ↦ (old.exact i).1 (omega arith, so) ],
    );
  }

  pub below_push : (xs ys : List ℕ) (n : ℕ) → IsSo n → ys ≡ xs ++ n ∷ [] → AreExactly (IsBelow n) xs → AreExactly (IsBelow (n + 1)) ys
  below_push xs ys n here pushed old = rw pushed (record {
    ascending = increasing-push xs n old.ascending (λ x h. ((old.exact x).0 h).0);
    exact = λ i. (
      λ h. elim (Contains-push_cases xs n i h) [
        | inl before ↦ let (lt, so) = (old.exact i).0 before in (omega arith, so)
        | inr same ↦ (omega arith, subst (λ m. IsSo m) same here)
      ],
      λ (lt, so). elim (cases_eq i n) [
        | inl same ↦ subst (λ m. Contains (xs ++ n ∷ []) m) (sym same) (Contains-push xs n)
        | inr other ↦ Contains-append_left xs (n ∷ []) i ((old.exact i).1 (omega arith, so))
      ],
    );
  })

  pub below_all : (xs : List ℕ) (n : ℕ) → ((i : ℕ) → IsSo i → i < n) → AreExactly (IsBelow n) xs → AreExactly IsSo xs
  below_all xs n all old = record {
    ascending = old.ascending;
    exact = λ i. (λ h. ((old.exact i).0 h).1, λ so. (old.exact i).1 (all i so, so));
  }

-- The same of a list that grows in front.
pub exactly_front : (P Q : ℕ → Type 0) (xs ys : List ℕ) (y : ℕ) → ys ≡ insert xs 0 y → ((i : ℕ) → P i → y < i) → ((i : ℕ) → P i → Q i) → Q y
    → ((i : ℕ) → Q i → (i ≡ y) ⊎ P i) → AreExactly P xs → AreExactly Q ys
exactly_front P Q xs ys y put above more here split old = rw (put, insert_front xs y) (record {
  ascending = increasing-cons xs y old.ascending (λ x h. above x ((old.exact x).0 h));
  exact = λ i. (
    λ h. elim (front_cases xs y i h) [ inl same ↦ subst (λ m. Q m) (sym same) here | inr there ↦ more i ((old.exact i).0 there) ],
    λ so. elim (split i so) [
      | inl same ↦ subst (λ m. Contains (y ∷ xs) m) (sym same) (front_here xs y)
      | inr p ↦ front_there xs y i ((old.exact i).1 p)
    ],
  );
})
