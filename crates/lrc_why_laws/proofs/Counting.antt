-- How many numbers there are, by what they stand for.
use Rattle.std.proofs.Common.{zero, suc, ◌≡◌, ℕ, ◌+◌, ◌<◌, ◌≤◌, List, [], ◌∷◌, length, inl, inr, refl, sym, ap, subst, ◌∙◌, arith}
use Rattle.std.specs.Prelude.{AllPairs, Contains}
use Rattle.lrc_why_chains.proofs.Exactly.{front_cases, front_here, front_there}

-- the numbers stand for those from a on, as many as n, and the greater ones for greater ones
pub record StandFor (f : ℕ → ℕ) (xs : List ℕ) (a n : ℕ) : Type 0 where
  pub rises : (i j : ℕ) → Contains xs i → Contains xs j → i < j → f i < f j
  pub from : (i : ℕ) → Contains xs i → a ≤ f i
  pub below : (i : ℕ) → Contains xs i → f i < a + n
  pub each : (k : ℕ) → a ≤ k → k < a + n → (i : ℕ) × Contains xs i × (f i ≡ k)

-- all behind the first are greater
behind_first : (x : ℕ) (xs : List ℕ) → AllPairs (λ i j. i < j) (x ∷ xs) → (i : ℕ) → Contains xs i → x < i
behind_first x xs rising i (k, lt, is) = subst (λ n. x < n) is (rising 0 (suc k) i (omega arith) (omega arith))

rest_rises : (x : ℕ) (xs : List ℕ) → AllPairs (λ i j. i < j) (x ∷ xs) → AllPairs (λ i j. i < j) xs
rest_rises x xs rising i j d lt within = rising (suc i) (suc j) d (omega arith) (omega arith)

none_there : (i : ℕ) → Contains [] i → ⊥
none_there i (k, lt, is) = omega arith

-- the first stands for the first
first_is : (f : ℕ → ℕ) (x : ℕ) (xs : List ℕ) (a n : ℕ) → AllPairs (λ i j. i < j) (x ∷ xs) → StandFor f (x ∷ xs) a (suc n) → f x ≡ a
first_is f x xs a n rising stand =
    let (i, there, is) = stand.each a (omega arith) (omega arith) in
    elim (front_cases xs x i there) [
      | inl same ↦ ap f (sym same) ∙ is
      | inr later ↦
          let lt = stand.rises x i (front_here xs x) there (behind_first x xs rising i later) in
          let le = stand.from x (front_here xs x) in
          absurd (omega arith)
    ]

rest_stands : (f : ℕ → ℕ) (x : ℕ) (xs : List ℕ) (a n : ℕ) → AllPairs (λ i j. i < j) (x ∷ xs) → StandFor f (x ∷ xs) a (suc n) → StandFor f xs (a + 1) n
rest_stands f x xs a n rising stand =
    let first : f x ≡ a = first_is f x xs a n rising stand in
    record {
      rises = λ i j h g lt. stand.rises i j (front_there xs x i h) (front_there xs x j g) lt;
      from = λ i h. let lt = stand.rises x i (front_here xs x) (front_there xs x i h) (behind_first x xs rising i h) in omega arith;
      below = λ i h. let lt = stand.below i (front_there xs x i h) in omega arith;
      each = λ k low high.
          let (i, there, is) = stand.each k (omega arith) (omega arith) in
          elim (front_cases xs x i there) [
            | inl same ↦ let at : f i ≡ a = ap f same ∙ first in absurd (omega arith)
            | inr later ↦ (i, later, is)
          ];
    }

-- there are as many as they stand for
pub as_many : (f : ℕ → ℕ) (xs : List ℕ) (a n : ℕ) → AllPairs (λ i j. i < j) xs → StandFor f xs a n → length xs ≡ n
as_many f [] a zero rising stand = refl
as_many f [] a (suc n) rising stand = let (i, there, is) = stand.each a (omega arith) (omega arith) in absurd (none_there i there)
as_many f (x ∷ xs) a zero rising stand =
    let low = stand.from x (front_here xs x) in
    let high = stand.below x (front_here xs x) in
    absurd (omega arith)
as_many f (x ∷ xs) a (suc n) rising stand =
    ap suc (as_many f xs (a + 1) n (rest_rises x xs rising) (rest_stands f x xs a n rising stand))
