-- Rows that know no more than another.
use Rattle.std.specs.Prelude.{◌≡◌, ◌≢◌, ◌≤◌, ℕ, List, [], Option, Some, None, Bool, true, slice_get, slice_index}
use Rattle.lrc_races_detector.specs.declared.vectors.Vector.{Vector}
use Rattle.lrc_races_detector.specs.Vectors.{held}

-- the entries of a row; where there is none, none
abbrev pub entries_of : Option Vector → List ℕ
entries_of (Some row) = held row
entries_of None = []

abbrev pub row_in : List Vector → ℕ → List ℕ
row_in rows index = entries_of (slice_get rows index)

-- the one knows no more than the other, but for its own entry
abbrev pub IsWithin : List Vector → ℕ → ℕ → Type 0
IsWithin rows one other = (thread : ℕ) → thread ≢ one → slice_index (row_in rows one) thread ≤ slice_index (row_in rows other) thread

-- the other that is kept of one
abbrev pub within_at : Option (Option ℕ) → Option ℕ
within_at (Some other) = other
within_at None = None

-- if it holds, each that has another is within that
abbrev pub AreWithin : List Vector → List (Option ℕ) → Bool → Type 0
AreWithin rows within holds = holds ≡ true → (one other : ℕ) → within_at (slice_get within one) ≡ Some other → IsWithin rows one other

-- this is kept of the one, and of all others what was before
pub record IsWithinSet (before after : List (Option ℕ)) (one : ℕ) (other : Option ℕ) : Type 0 where
  pub here : within_at (slice_get after one) ≡ other
  pub others : (k : ℕ) → k ≢ one → within_at (slice_get after k) ≡ within_at (slice_get before k)

-- at this index no less is known than before, and at all others as much
pub record IsGrown (before after : List Vector) (index : ℕ) : Type 0 where
  pub here : (thread : ℕ) → slice_index (row_in before index) thread ≤ slice_index (row_in after index) thread
  pub others : (other : ℕ) → other ≢ index → row_in after other ≡ row_in before other
