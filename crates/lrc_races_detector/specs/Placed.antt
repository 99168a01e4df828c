-- A row of last accesses: an entry for each thread, and their places, ascending by thread.
use Rattle.std.specs.Prelude.{◌≡◌, ◌≢◌, ℕ, ◌<◌, ◌≤◌, List, [], ◌∷◌, ◌++◌, length, Some, All, AllPairs, option_map, option_to_list, slice_get, slice_index_or}
use Rattle.lrc_races_detector.specs.declared.places.Place.{Place}
use Rattle.lrc_races_detector.specs.declared.variables.Last.{Last}

abbrev pub thread_of : Last → ℕ
thread_of last = last.access.event.thread

-- the entries that stand at some places
abbrev pub row_in : List Last → List Place → List Last
row_in lasts [] = []
row_in lasts (place ∷ order) = option_to_list (slice_get lasts place.index) ++ row_in lasts order

abbrev pub AreOrdered : List Place → Type 0
AreOrdered order = AllPairs (λ a b. a.thread < b.thread) order

-- an entry of its thread stands at the place
abbrev pub IsKeptAt : List Last → Place → Type 0
IsKeptAt lasts place = option_map thread_of (slice_get lasts place.index) ≡ Some place.thread

-- so it is at each, no two places are the same, and they ascend by thread
pub record AreKept (lasts : List Last) (order : List Place) : Type 0 where
  pub ordered : AreOrdered order
  pub apart : AllPairs (λ a b. a.index ≢ b.index) order
  pub kept : All (IsKeptAt lasts) order

-- where a thread has its place, or is to have it
pub record IsPlace (order : List Place) (thread at : ℕ) : Type 0 where
  pub within : at ≤ length order
  pub below : (k : ℕ) (d : Place) → k < at → (slice_index_or order k d).thread < thread
  pub reached : (k : ℕ) (d : Place) → at ≤ k → k < length order → thread ≤ (slice_index_or order k d).thread
