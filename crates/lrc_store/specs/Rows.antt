-- The places of each node's intervals, to look them up by their index.
use Rattle.std.specs.Prelude.{◌≡◌, ℕ, ◌+◌, ◌<◌, ◌≤◌, ◌==◌, ⊤, List, [], ◌∷◌, length, filter, slice_index_or}
use Rattle.lrc_time.specs.Time.{entry}
use Rattle.lrc_store.specs.Interval.{IntervalRecord, index_of}
use Rattle.lrc_store.specs.Lists.{places_from}

-- places, oldest first, and the room that there is for them
pub record RowRecord : Type 0 where
  pub places : List ℕ
  pub room : ℕ

-- each node has a row, which has just the places of its intervals
pub record AreRows (rows : List RowRecord) (nodes : ℕ) (keys : List ℕ) : Type 0 where
  pub count : length rows ≡ nodes
  pub each : (node : ℕ) (d : RowRecord) → node < nodes → (slice_index_or rows node d).places ≡ places_from node 0 keys

-- each of so many rows has room for the places of its node's intervals
abbrev pub HaveRoom : ℕ → List RowRecord → List ℕ → Type 0
HaveRoom nodes rows keys =
    (node : ℕ) (d : RowRecord) → node < nodes → length (places_from node 0 keys) ≤ (slice_index_or rows node d).room

-- the node's row has room for one place more than there are
abbrev pub HasRoom : List RowRecord → List ℕ → ℕ → Type 0
HasRoom rows keys node = (d : RowRecord) → length (places_from node 0 keys) < (slice_index_or rows node d).room

-- how many of the intervals are of this node
abbrev pub count_of_node : ℕ → List IntervalRecord → ℕ
count_of_node node intervals = length (filter (λ interval. interval.node == node) intervals)

-- no index up to a node's last one is left out from the oldest that is there on: an interval's index, and the number of those
-- of its node that were added after it, make the last index
abbrev pub HasNoGaps : List ℕ → List IntervalRecord → Type 0
HasNoGaps last [] = ⊤
HasNoGaps last (interval ∷ after) = (index_of interval + count_of_node interval.node after ≡ entry last interval.node) × HasNoGaps last after
