-- Rows of starts, and tables of rows.
use Rattle.std.specs.Prelude.{◌≡◌, ◌≢◌, ℕ, List, Option, Some, None, Vec, slice_get}
use Rattle.std.specs.declared.alloc.Global.{Global}
use Rattle.lrc_chains.specs.declared.starts.Start.{Start}
use Rattle.lrc_chains.specs.Starts.{better}

-- what is kept; where nothing is, there is no start
abbrev pub kept_start : Option (Option Start) → Option Start
kept_start (Some start) = start
kept_start None = None

abbrev pub start_at : List (Option Start) → ℕ → Option Start
start_at row index = kept_start (slice_get row index)

-- this index has the better of its start and this one, and all others have what they had
pub record IsGained (before after : List (Option Start)) (index : ℕ) (start : Option Start) : Type 0 where
  pub here : start_at after index ≡ better start (start_at before index)
  pub others : (other : ℕ) → other ≢ index → start_at after other ≡ start_at before other

-- the start at an index of a row
abbrev pub start_in_row : Option (Vec (Option Start) Global) → ℕ → Option Start
start_in_row (Some row) index = start_at row.items index
start_in_row None index = None

abbrev pub start_in : List (Vec (Option Start) Global) → ℕ → ℕ → Option Start
start_in rows row index = start_in_row (slice_get rows row) index

-- this index of this row has the better of its start and this one, and all others have what they had
pub record IsGainedIn (before after : List (Vec (Option Start) Global)) (row index : ℕ) (start : Option Start) : Type 0 where
  pub here : start_in after row index ≡ better start (start_in before row index)
  pub others : (other : ℕ) → other ≢ index → start_in after row other ≡ start_in before row other
  pub rows : (other place : ℕ) → other ≢ row → start_in after other place ≡ start_in before other place
