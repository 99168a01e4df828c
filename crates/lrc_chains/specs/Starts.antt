-- Where chains to a position go on.
use Rattle.std.specs.Prelude.{◌≡◌, ℕ, ◌+◌, ◌<◌, ◌≤◌, ◌⊎◌, ◌==◌, ◌&&◌, ◌||◌, nat_lt, if◌then◌else◌, List, [], ◌∷◌, Option, Some, None, length, slice_index_or}
use Rattle.lrc_chains.specs.declared.starts.Start.{Start}
use Rattle.lrc_chains.specs.Chains.{IsLess}

-- the start of the shorter chain, of two as long the earlier one
abbrev pub better : Option Start → Option Start → Option Start
better None second = second
better (Some a) None = Some a
better (Some a) (Some b) =
    if nat_lt b.size a.size || (b.size == a.size && nat_lt b.position a.position) then Some b else Some a

-- the start of the chain that goes on there, one position earlier
abbrev pub from_here : Option Start → ℕ → Option Start
from_here (Some start) position = Some (record { size = start.size + 1; position = position })
from_here None position = None

-- A path from a position to this one: a chain, or the position alone.
pub data IsPath (Precedes : ℕ → ℕ → Type 0) (to : ℕ) : ℕ → List ℕ → Type 0 where
  there : IsPath Precedes to to (to ∷ [])
  onward : {k m : ℕ} {path : List ℕ} → Precedes k m → IsPath Precedes to m path → IsPath Precedes to k (k ∷ path)

-- of the shortest paths from k the least
pub record IsToldPath (Precedes : ℕ → ℕ → Type 0) (to k : ℕ) (path : List ℕ) : Type 0 where
  pub is_path : IsPath Precedes to k path
  pub shortest : (other : List ℕ) → IsPath Precedes to k other → length path ≤ length other
  pub least : (other : List ℕ) → IsPath Precedes to k other → length other ≡ length path → ¬ IsLess other path

-- some chain begins so: it is shorter than this, or as long and does not begin later
pub record IsSomeBetter (start : Option Start) (size position : ℕ) : Type 0 where
  pub some : Start
  pub is : start ≡ Some some
  pub better : (some.size < size) ⊎ ((some.size ≡ size) × (some.position ≤ position))

-- The best start of a path from one of these positions: of the shortest the earliest.
pub record IsBest (Precedes : ℕ → ℕ → Type 0) (to : ℕ) (these : ℕ → Type 0) (best : Option Start) : Type 0 where
  pub sound : (start : Start) → best ≡ Some start
      → these start.position × ((path : List ℕ) × IsToldPath Precedes to start.position path × (length path ≡ start.size))
  pub complete : (k : ℕ) (path : List ℕ) → these k → IsPath Precedes to k path → IsSomeBetter best (length path) k

-- each position from this one on, but for the last, has the best start of those that come right behind it
pub record AreNext (Precedes : ℕ → ℕ → Type 0) (to from : ℕ) (next : List (Option Start)) : Type 0 where
  pub all : length next ≡ to
  pub best : (k : ℕ) → from ≤ k → k < to → IsBest Precedes to (λ m. Precedes k m) (slice_index_or next k None)
