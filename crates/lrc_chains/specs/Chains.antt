-- Chains: by which positions one position leads to another, where a relation says which comes right before which.
use Rattle.std.specs.Prelude.{◌≡◌, ℕ, ◌<◌, ◌≤◌, ◌⊎◌, List, [], ◌∷◌, length}

-- A chain from i to j: positions from the one to the other, each right before the next.
pub data IsChain (Precedes : ℕ → ℕ → Type 0) : ℕ → ℕ → List ℕ → Type 0 where
  step : {i j : ℕ} → Precedes i j → IsChain Precedes i j (i ∷ j ∷ [])
  longer : {i k j : ℕ} {chain : List ℕ} → Precedes i k → IsChain Precedes k j chain → IsChain Precedes i j (i ∷ chain)

-- the one list of numbers is less than the other: by the first place at which they differ, or it is a beginning of the other
abbrev pub IsLess : List ℕ → List ℕ → Type 0
IsLess xs [] = ⊥
IsLess [] (y ∷ ys) = Unit {0}
IsLess (x ∷ xs) (y ∷ ys) = (x < y) ⊎ ((x ≡ y) × IsLess xs ys)

-- The chain that is told from i to j: it is one, none is shorter, and of those as short none is less.
pub record IsTold (Precedes : ℕ → ℕ → Type 0) (i j : ℕ) (chain : List ℕ) : Type 0 where
  pub is_chain : IsChain Precedes i j chain
  pub shortest : (other : List ℕ) → IsChain Precedes i j other → length chain ≤ length other
  pub least : (other : List ℕ) → IsChain Precedes i j other → length other ≡ length chain → ¬ IsLess other chain
