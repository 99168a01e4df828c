-- From which element to which a test passes.
use Rattle.std.proofs.Common.{◌≡◌, ◌∙◌, ◌<◌, ◌≤◌, ◌+◌, ◌||◌, ◌++◌, ◌∷◌, [], ℕ, zero, suc, List, Bool, true, false, cond, ap, append-nil, arith, get_or, inl, inr, length, refl, subst, take}
use Rattle.std.specs.List.{AllWithin, list_any}
use Rattle.std.proofs.lemmas.Bool.{cases_lt}
use Rattle.std.proofs.lemmas.List.Folds.{list_any_more}
use Rattle.lrc_text.specs.Each.{each}
use Rattle.lrc_text.proofs.Each.{each_more}

module _ {X : Type 0} (p : X → Bool) (xs : List X) where
  abbrev No : (low high : ℕ) → Type 0
  No low high = AllWithin (λ x. p x ≡ false) xs low high

  pub none_more : (low i : ℕ) → No low i → ((d : X) → p (get_or xs i d) ≡ false) → No low (i + 1)
  none_more low i before here k d le lt =
      elim (cases_lt k i) [
        | inl less ↦ before k d le less
        | inr past ↦ let same : i ≡ k = omega (arith, lt, past) in subst (λ m. p (get_or xs m d) ≡ false) same (here d)
      ]

  abbrev place_if : ℕ → X → List ℕ
  place_if k x = cond (p x) (k ∷ []) []

  -- where none passes from low up to n, none of these places is added
  pub places_none : (low n : ℕ) → low ≤ n → n ≤ length xs → (d : X) → No low n → each place_if (take n xs) ≡ each place_if (take low xs)
  places_none low zero le end d none = let same : zero ≡ low = omega (arith, le) in ap (λ m. each place_if (take m xs)) same
  places_none low (suc n) le end d none =
      elim (cases_lt n low) [
        | inl less ↦ let same : suc n ≡ low = omega (arith, less, le) in ap (λ m. each place_if (take m xs)) same
        | inr past ↦
            let lt : n < length xs = omega (arith, end) in
            let next : suc n ≡ n + 1 = omega arith in
            let lower = places_none low n past (omega (arith, end)) d (λ k e from below. none k e from (omega (arith, below))) in
            ap (λ m. each place_if (take m xs)) next ∙ each_more place_if xs n d lt
            ∙ ap (λ b. each place_if (take n xs) ++ cond b (n ∷ []) []) (none n d past (omega arith)) ∙ append-nil (each place_if (take n xs)) ∙ lower
      ]

  pub any_none : (n : ℕ) → n ≤ length xs → (d : X) → No 0 n → list_any p (take n xs) ≡ false
  any_none zero end d none = refl
  any_none (suc n) end d none =
      let lt : n < length xs = omega (arith, end) in
      let next : suc n ≡ n + 1 = omega arith in
      ap (λ m. list_any p (take m xs)) next ∙ list_any_more p xs n d lt
      ∙ ap (λ b. b || p (get_or xs n d)) (any_none n (omega (arith, end)) d (λ k e from below. none k e from (omega (arith, below))))
      ∙ none n d (omega arith) (omega arith)

  or_right : (a b : Bool) → b ≡ true → (a || b) ≡ true
  or_right true b is = refl
  or_right false b is = is

  pub any_there : (first n : ℕ) → first < n → n ≤ length xs → (d : X) → p (get_or xs first d) ≡ true → list_any p (take n xs) ≡ true
  any_there first zero lt end d there = absurd (omega (arith, lt))
  any_there first (suc n) lt end d there =
      let in_xs : n < length xs = omega (arith, end) in
      let next : suc n ≡ n + 1 = omega arith in
      let more = ap (λ m. list_any p (take m xs)) next ∙ list_any_more p xs n d in_xs in
      elim (cases_lt first n) [
        | inl less ↦ more ∙ ap (λ b. b || p (get_or xs n d)) (any_there first n less (omega (arith, end)) d there)
        | inr past ↦
            let same : first ≡ n = omega (arith, lt, past) in
            more ∙ or_right (list_any p (take n xs)) (p (get_or xs n d)) (subst (λ m. p (get_or xs m d) ≡ true) same there)
      ]
