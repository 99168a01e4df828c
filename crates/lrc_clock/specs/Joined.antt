-- One more time at a barrier.
use Rattle.std.specs.Prelude.{◌≡◌, ◌≢◌, ℕ, ◌<◌, ◌≤◌, List, length, slice_index_or}
use Rattle.lrc_time.specs.Time.{zeros, joined}

-- A time was joined with that at a place of a list, where what is not in the list counts as zeros.
pub record IsJoined (nodes place : ℕ) (time : List ℕ) (old new : List (List ℕ)) : Type 0 where
  pub here : slice_index_or new place (zeros nodes) ≡ joined (slice_index_or old place (zeros nodes)) time
  pub others : (k : ℕ) → k ≢ place → slice_index_or new k (zeros nodes) ≡ slice_index_or old k (zeros nodes)
  pub kept : length old ≤ length new
  pub there : place < length new
