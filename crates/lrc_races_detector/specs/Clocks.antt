-- What is known at each index, and what changes there.
use Rattle.std.specs.Prelude.{◌≡◌, ◌≢◌, ℕ, ◌≤◌, ◌/◌, ◌⊎◌, List, max, slice_index}
use Rattle.lrc_races_detector.specs.declared.clocks.Clocks.{Clocks}
use Rattle.lrc_races_detector.specs.Chunks.{IsChunkRaised}
use Rattle.lrc_races_detector.specs.Vectors.{IsPut, IsRaised}
use Rattle.lrc_races_detector.specs.Within.{row_in}

abbrev pub row : Clocks → ℕ → List ℕ
row clocks index = row_in clocks.rows.items index

-- at this index this is known besides, and at all others as much as before
pub record IsGained (before after : Clocks) (index : ℕ) (known : List ℕ) : Type 0 where
  pub here : (thread : ℕ) → slice_index (row after index) thread ≡ max (slice_index (row before index) thread) (slice_index known thread)
  pub others : (other : ℕ) → other ≢ index → row after other ≡ row before other

-- at this index exactly this is known, and at all others what was before
pub record IsReplaced (before after : Clocks) (index : ℕ) (known : List ℕ) : Type 0 where
  pub here : row after index ≡ known
  pub others : (other : ℕ) → other ≢ index → row after other ≡ row before other

-- at this index the entry has at least this value, and at all others is known what was
pub record IsRowRaised (before after : Clocks) (index thread value : ℕ) : Type 0 where
  pub here : IsRaised (row before index) (row after index) thread value
  pub others : (other : ℕ) → other ≢ index → row after other ≡ row before other

-- the thread's own entry has this value, and all others are as before
pub record IsMarked (before after : Clocks) (thread value : ℕ) : Type 0 where
  pub here : IsPut (row before thread) (row after thread) thread value
  pub others : (other : ℕ) → other ≢ thread → row after other ≡ row before other

-- at this index all entries of the chunk have at least this value, and at all others is known what was
pub record IsRowLevelled (before after : Clocks) (index chunk value : ℕ) : Type 0 where
  pub here : IsChunkRaised (row before index) (row after index) chunk value
  pub others : (other : ℕ) → other ≢ index → row after other ≡ row before other

-- At this index the entry of a thread is as it was. Or it is in the chunk and was no less than what the thread knows of
-- itself, and now it has at least this value. At all others is known what was.
pub record IsLevelled (before after : Clocks) (index chunk value : ℕ) : Type 0 where
  pub here : (thread : ℕ) → (slice_index (row after index) thread ≡ slice_index (row before index) thread)
      ⊎ ((thread / 128 ≡ chunk) × (slice_index (row before thread) thread ≤ slice_index (row before index) thread)
      × (slice_index (row after index) thread ≡ max (slice_index (row before index) thread) value))
  pub others : (other : ℕ) → other ≢ index → row after other ≡ row before other
