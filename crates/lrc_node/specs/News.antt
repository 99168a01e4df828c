-- Intervals that come with a time: those of each node follow one another.
use Rattle.std.specs.Prelude.{◌≡◌, ℕ, ◌+◌, ◌-◌, ◌<◌, ◌≤◌, List, length, false}
use Rattle.std.specs.List.{range_with_len}
use Rattle.lrc_time.specs.Time.{entry}
use Rattle.lrc_store.specs.Interval.{IntervalRecord}
use Rattle.lrc_protocol.specs.Times.{indices_by, are_between}

-- the indices of one node's intervals begin just above a number, follow one another, and end at a number
pub record IsUnbrokenRun (intervals : List IntervalRecord) (q above last : ℕ) : Type 0 where
  pub risen : above ≤ last
  pub run : indices_by intervals q ≡ range_with_len (above + 1) (last - above)

-- those of each node begin just above the entry of a time, and end at that of another
pub record AreUnbroken (known : List ℕ) (intervals : List IntervalRecord) (reached : List ℕ) : Type 0 where
  pub counted : length reached ≡ length known
  pub each : (q : ℕ) → IsUnbrokenRun intervals q (entry known q) (entry reached q)

-- those of one of the nodes are no such run
pub record IsBroken (known : List ℕ) (intervals : List IntervalRecord) : Type 0 where
  pub q : ℕ
  pub in_range : q < length known
  pub between : (upto : ℕ) → are_between intervals q (entry known q) upto ≡ false
