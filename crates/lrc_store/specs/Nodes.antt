-- The intervals of each node, as lists, and where each interval's notices begin.
use Rattle.std.specs.Prelude.{◌≡◌, ℕ, ◌<◌, List, length, take, flat_map, slice_index_or}
use Rattle.lrc_store.specs.Interval.{IntervalRecord}
use Rattle.lrc_store.specs.Lists.{keys_of}
use Rattle.lrc_store.specs.Rows.{RowRecord}

-- the nodes of the intervals in the order of adding, where the notices of each begin, the number of nodes that there can
-- be, the room that there is, and the places of each node's intervals
pub record NodesRecord : Type 0 where
  pub lists : ℕ
  pub keys : List ℕ
  pub starts : List ℕ
  pub room : ℕ
  pub rows : List RowRecord

-- where each interval's notices begin: after those of the intervals before it
pub record AreStarts (starts : List ℕ) (intervals : List IntervalRecord) : Type 0 where
  pub count : length starts ≡ length intervals
  pub each : (at d : ℕ) → at < length intervals → slice_index_or starts at d ≡ length (flat_map keys_of (take at intervals))
