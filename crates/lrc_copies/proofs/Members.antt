-- The members of lists.
use Rattle.std.proofs.Common.{◌≡◌, zero, suc, ◌⊎◌, ◌∙◌, Bool, true, false, cond, List, [], ◌∷◌, refl, ap, sym, subst, inl, inr, ⊎_elim, arith}
use Rattle.std.specs.List.{AllPairs, Contains, filter}

module _ {X : Type 0} where
  pub Contains-first : (x : X) (xs : List X) → Contains (x ∷ xs) x
  Contains-first x xs = (zero, omega arith, refl)

  pub Contains-later : (x : X) (xs : List X) (y : X) → Contains xs y → Contains (x ∷ xs) y
  Contains-later x xs y in_rest = (suc in_rest.0, omega (arith, in_rest.1), in_rest.2)

  pub cases_Contains : (x : X) (xs : List X) (y : X) → Contains (x ∷ xs) y → (x ≡ y) ⊎ Contains xs y
  cases_Contains x xs y (zero, within, same) = inl same
  cases_Contains x xs y (suc k, within, same) = inr (k, omega arith, same)

  pub none_Contains : (y : X) → Contains [] y → ⊥
  none_Contains y within = omega (arith, within.1)

  -- what passes a test stays in the list that a filter leaves, and nothing else does
  pub Contains-filter : (test : X → Bool) (xs : List X) (y : X) → Contains xs y → test y ≡ true → Contains (filter test xs) y
  Contains-filter test [] y there passes = absurd (none_Contains y there)
  Contains-filter test (x ∷ xs) y there passes =
      ⊎_elim
      (λ (same : x ≡ y).
      let first : test x ≡ true = ap test same ∙ passes in
      rw first (subst (λ z. Contains (x ∷ filter test xs) z) same (Contains-first x (filter test xs))))
      (λ (deeper : Contains xs y).
      let rest : Contains (filter test xs) y = Contains-filter test xs y deeper passes in
      elim (test x) as (λ b. Contains (cond b (x ∷ filter test xs) (filter test xs)) y)
      [ true ↦ Contains-later x (filter test xs) y rest | false ↦ rest ])
      (cases_Contains x xs y there)

  from_cons : (test : X → Bool) (x : X) (xs : List X) (y : X) (b : Bool) → test x ≡ b
      → (Contains (filter test xs) y → Contains xs y × (test y ≡ true))
      → Contains (cond b (x ∷ filter test xs) (filter test xs)) y → Contains (x ∷ xs) y × (test y ≡ true)
  from_cons test x xs y false fails rest there = let later = rest there in (Contains-later x xs y later.0, later.1)
  from_cons test x xs y true passes rest there =
      ⊎_elim
      (λ (same : x ≡ y). ((zero, omega arith, same), ap test (sym same) ∙ passes))
      (λ deeper. let later = rest deeper in (Contains-later x xs y later.0, later.1))
      (cases_Contains x (filter test xs) y there)

  pub Contains-from_filter : (test : X → Bool) (xs : List X) (y : X) → Contains (filter test xs) y → Contains xs y × (test y ≡ true)
  Contains-from_filter test [] y there = absurd (none_Contains y there)
  Contains-from_filter test (x ∷ xs) y there =
      from_cons test x xs y (test x) refl (λ deeper. Contains-from_filter test xs y deeper) there

  -- what holds of each two elements in order holds of the first and each other, and of the others
  pub AllPairs-first : (R : X → X → Type 0) (x : X) (xs : List X) (y : X) → AllPairs R (x ∷ xs) → Contains xs y → R x y
  AllPairs-first R x xs y pairs there =
      subst (R x) there.2 (pairs zero (suc there.0) y (omega arith) (omega (arith, there.1)))

  pub AllPairs-rest : (R : X → X → Type 0) (x : X) (xs : List X) → AllPairs R (x ∷ xs) → AllPairs R xs
  AllPairs-rest R x xs pairs i j d before within = pairs (suc i) (suc j) d (omega arith) (omega arith)
