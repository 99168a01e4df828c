-- Intervals and times. A node's execution is cut into intervals, numbered from 1 (Keleher, Cox and Zwaenepoel 1992). A time
-- counts, for each node, the intervals that are known to be closed; the stamp of an interval is the time just after it.
use Rattle.std.specs.Prelude.{ℕ, ◌+◌, ◌-◌, ◌==◌, Bool, filter, List, map, slice_set}
use Rattle.std.specs.List.{list_any, range_with_len}
use lib.Pointwise.{pointwise}
use Rattle.lrc_time.specs.Time.{entry}
use Rattle.lrc_store.specs.Interval.{index_of, IntervalRecord}

-- how large a message's number or an interval's index may be
abbrev pub MOST_NUMBER : ℕ
MOST_NUMBER = 4294967295

-- the time after the node's open interval: its own entry is one greater
abbrev pub next_time : ℕ → List ℕ → List ℕ
next_time me time = slice_set time me (entry time me + 1)

-- one of the intervals names the page
abbrev pub is_named : List IntervalRecord → ℕ → Bool
is_named intervals page = list_any (λ interval. list_any (λ named. named == page) interval.pages) intervals

-- the indices of a node's intervals, in their order
abbrev pub indices_by : List IntervalRecord → ℕ → List ℕ
indices_by intervals q = map index_of (filter (λ interval. interval.node == q) intervals)

-- the intervals of a node are exactly those above this index and up to that one; none where that one is not greater, since ◌-◌
-- gives no less than 0
abbrev pub are_between : List IntervalRecord → ℕ → ℕ → ℕ → Bool
are_between intervals q above upto = pointwise ◌==◌ (indices_by intervals q) (range_with_len (above + 1) (upto - above))
