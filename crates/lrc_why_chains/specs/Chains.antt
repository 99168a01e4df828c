-- Chains: by which acts one act happens before another.
use Rattle.std.specs.Prelude.{◌≡◌, ℕ, ◌<◌, ◌≤◌, ◌⊎◌, List, [], ◌∷◌, length}
use Rattle.lrc_trace.specs.declared.act.Act.{Act}
use Rattle.lrc_trace.specs.Order.{Precedes}

-- A chain from i to j: positions from the one to the other, each before the next by the base order.
pub data IsChain (run : List Act) : ℕ → ℕ → List ℕ → Type 0 where
  step : {i j : ℕ} → Precedes run i j → IsChain run i j (i ∷ j ∷ [])
  longer : {i k j : ℕ} {chain : List ℕ} → Precedes run i k → IsChain run k j chain → IsChain run i j (i ∷ chain)

-- the one list of numbers is less than the other: by the first place at which they differ, or it is a beginning of the other
abbrev pub IsLess : List ℕ → List ℕ → Type 0
IsLess xs [] = ⊥
IsLess [] (y ∷ ys) = Unit {0}
IsLess (x ∷ xs) (y ∷ ys) = (x < y) ⊎ ((x ≡ y) × IsLess xs ys)

-- The chain that is told from i to j: it is one, none is shorter, and of those as short none is less.
pub record IsTold (run : List Act) (i j : ℕ) (chain : List ℕ) : Type 0 where
  pub is_chain : IsChain run i j chain
  pub shortest : (other : List ℕ) → IsChain run i j other → length chain ≤ length other
  pub least : (other : List ℕ) → IsChain run i j other → length other ≡ length chain → ¬ IsLess other chain
