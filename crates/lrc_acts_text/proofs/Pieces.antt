-- Where the pieces of a list stand, that were put together one after another.
use Rattle.std.proofs.Common.{◌≡◌, ◌∙◌, ◌<◌, ◌≤◌, ◌+◌, ◌-◌, ℕ, zero, suc, inl, inr, refl, sym, ap, subst, arith, List, [], ◌∷◌, ◌++◌, length}
use Rattle.std.specs.Prelude.{Some, slice_get}
use Rattle.std.specs.List.{enumerate_from, flat_map, range_with_len}
use Rattle.std.proofs.lemmas.Bool.{cases_lt}
use Rattle.std.proofs.lemmas.Option.{same_Some, slice_get_within}
use Rattle.lrc_trace.proofs.Positions.{slice_get-front}

slice_get-back : {A : Type 0} (xs ys : List A) (k : ℕ) → length xs ≤ k → slice_get (xs ++ ys) k ≡ slice_get ys (k - length xs)
slice_get-back [] ys k h = ap (slice_get ys) (omega arith)
slice_get-back (x ∷ xs) ys zero h = absurd (omega arith)
slice_get-back (x ∷ xs) ys (suc k) h = slice_get-back xs ys k (omega arith) ∙ ap (slice_get ys) (omega arith)

slice_get-later : {A : Type 0} (xs ys : List A) (k : ℕ) → slice_get (xs ++ ys) (length xs + k) ≡ slice_get ys k
slice_get-later xs ys k = slice_get-back xs ys (length xs + k) (omega arith) ∙ ap (slice_get ys) (omega arith)

-- nothing stands in an empty list
pub nowhere : {A : Type 0} (k : ℕ) (x : A) → slice_get [] k ≡ Some x → ⊥
nowhere {A} k x h = let none : k < 0 = slice_get_within {A = A} [] k x h in absurd (omega arith)

module _ {X Y : Type 0} (of : ℕ → X → List Y) where
  abbrev pub pieces : ℕ → List X → List Y
  pieces n xs = flat_map (λ at. of at.0 at.1) (enumerate_from n xs)

  -- what stands there is of some piece
  pub found : (n : ℕ) (xs : List X) (k : ℕ) (y : Y) → slice_get (pieces n xs) k ≡ Some y
      → (i : ℕ) × (x : X) × (slice_get xs i ≡ Some x) × ((o : ℕ) × (slice_get (of (n + i) x) o ≡ Some y))
  found n [] k y h = absurd (nowhere k y h)
  found n (x ∷ xs) k y h =
      elim (cases_lt k (length (of n x))) [
        | inl low ↦
            let here : slice_get (of n x) k ≡ Some y = sym (slice_get-front (of n x) (pieces (n + 1) xs) k low) ∙ h in
            let same : n ≡ n + 0 = omega arith in
            (0, x, refl, (k, subst (λ m. slice_get (of m x) k ≡ Some y) same here))
        | inr high ↦
            let (i, z, at, (o, is)) = found (n + 1) xs (k - length (of n x)) y (sym (slice_get-back (of n x) (pieces (n + 1) xs) k high) ∙ h) in
            let same : n + 1 + i ≡ n + suc i = omega arith in
            (suc i, z, at, (o, subst (λ m. slice_get (of m z) o ≡ Some y) same is))
      ]

  -- and every item of a piece stands somewhere
  pub there : (n : ℕ) (xs : List X) (i : ℕ) (x : X) (o : ℕ) (y : Y) → slice_get xs i ≡ Some x → slice_get (of (n + i) x) o ≡ Some y
      → (k : ℕ) × (slice_get (pieces n xs) k ≡ Some y)
  there n [] i x o y at is = absurd (nowhere i x at)
  there n (z ∷ xs) zero x o y at is =
      let same : z ≡ x = same_Some z x at in
      let start : n + 0 ≡ n = omega arith in
      let here : slice_get (of n z) o ≡ Some y =
      subst (λ (w : X). slice_get (of n w) o ≡ Some y) (sym same) (subst (λ m. slice_get (of m x) o ≡ Some y) start is) in
      (o, slice_get-front (of n z) (pieces (n + 1) xs) o (slice_get_within (of n z) o y here) ∙ here)
  there n (z ∷ xs) (suc i) x o y at is =
      let same : n + suc i ≡ n + 1 + i = omega arith in
      let (k, later) = there (n + 1) xs i x o y at (subst (λ m. slice_get (of m x) o ≡ Some y) same is) in
      (length (of n z) + k, slice_get-later (of n z) (pieces (n + 1) xs) k ∙ later)

  -- where items say of which piece they are, later ones are of later pieces
  module _ (place : Y → ℕ) (placed : (i : ℕ) (x : X) (o : ℕ) (y : Y) → slice_get (of i x) o ≡ Some y → place y ≡ i) where
    pub rising : (n : ℕ) (xs : List X) (k m : ℕ) (y z : Y) → slice_get (pieces n xs) k ≡ Some y → slice_get (pieces n xs) m ≡ Some z → k ≤ m
        → place y ≤ place z
    rising n [] k m y z hk hm le = absurd (nowhere k y hk)
    rising n (x ∷ xs) k m y z hk hm le =
        elim (cases_lt k (length (of n x))) [
          | inl low ↦
              let first : place y ≡ n = placed n x k y (sym (slice_get-front (of n x) (pieces (n + 1) xs) k low) ∙ hk) in
              elim (cases_lt m (length (of n x))) [
                | inl low_too ↦
                    let second : place z ≡ n = placed n x m z (sym (slice_get-front (of n x) (pieces (n + 1) xs) m low_too) ∙ hm) in omega arith
                | inr high ↦
                    let (i, w, at, (o, is)) = found (n + 1) xs (m - length (of n x)) z (sym (slice_get-back (of n x) (pieces (n + 1) xs) m high) ∙ hm) in
                    let second : place z ≡ n + 1 + i = placed (n + 1 + i) w o z is in
                    omega arith
              ]
          | inr high ↦
              rising (n + 1) xs (k - length (of n x)) (m - length (of n x)) y z
              (sym (slice_get-back (of n x) (pieces (n + 1) xs) k high) ∙ hk)
              (sym (slice_get-back (of n x) (pieces (n + 1) xs) m (omega arith)) ∙ hm)
              (omega arith)
        ]

-- the same of pieces for the numbers from a on
module _ {Y : Type 0} (of : ℕ → List Y) where
  pub found_in_range : (a n k : ℕ) (y : Y) → slice_get (flat_map of (range_with_len a n)) k ≡ Some y
      → (q : ℕ) × (q < a + n) × ((o : ℕ) × (slice_get (of q) o ≡ Some y))
  found_in_range a zero k y h = absurd (nowhere k y h)
  found_in_range a (suc n) k y h =
      elim (cases_lt k (length (of a))) [
        | inl low ↦ (a, omega arith, (k, sym (slice_get-front (of a) (flat_map of (range_with_len (a + 1) n)) k low) ∙ h))
        | inr high ↦
            let (q, few, at) = found_in_range (a + 1) n (k - length (of a)) y
            (sym (slice_get-back (of a) (flat_map of (range_with_len (a + 1) n)) k high) ∙ h) in
            (q, omega arith, at)
      ]

  pub there_in_range : (a n q o : ℕ) (y : Y) → a ≤ q → q < a + n → slice_get (of q) o ≡ Some y
      → (k : ℕ) × (slice_get (flat_map of (range_with_len a n)) k ≡ Some y)
  there_in_range a zero q o y low high is = absurd (omega arith)
  there_in_range a (suc n) q o y low high is =
      elim (cases_lt a q) [
        | inl less ↦
            let (k, later) = there_in_range (a + 1) n q o y (omega arith) (omega arith) is in
            (length (of a) + k, slice_get-later (of a) (flat_map of (range_with_len (a + 1) n)) k ∙ later)
        | inr same ↦
            let equal : q ≡ a = omega arith in
            let here : slice_get (of a) o ≡ Some y = subst (λ m. slice_get (of m) o ≡ Some y) equal is in
            (o, slice_get-front (of a) (flat_map of (range_with_len (a + 1) n)) o (slice_get_within (of a) o y here) ∙ here)
      ]
