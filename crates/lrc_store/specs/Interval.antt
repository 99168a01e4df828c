-- Interval records: what a node did between two synchronizations, as other nodes learn of it (Amza et al. 1996).
use Rattle.std.specs.Prelude.{ℕ, ◌-◌, ◌<◌, ◌≤◌, ◌==◌, ◌&&◌, ◌||◌, Bool, List, Option, length, All, nat_lt, slice_get}
use Rattle.std.specs.Ordering.{on, eq_of_both}
use Rattle.std.specs.Cmp.{IsEquivalence, and_equiv, on_equiv, nat_eq_equiv}
use Rattle.std.specs.Cmp.Lexicographic.{lists_equiv}
use lib.Pointwise.{pointwise}
use Rattle.lrc_time.specs.Time.{entry, weight_of}
use Rattle.lrc_page.specs.declared.TheConstants.{MOST_PAGES}
use Rattle.lrc_page.specs.Pages.{IsRising}

-- a node, the time after it closed the interval, and the pages that it wrote in it
pub record IntervalRecord : Type 0 where
  pub node : ℕ
  pub stamp : List ℕ
  pub pages : List ℕ

-- an interval's number among those of its node: what its stamp counts of its node
abbrev pub index_of : IntervalRecord → ℕ
index_of interval = entry interval.stamp interval.node

-- two intervals are the same, as a test
abbrev pub same_interval : IntervalRecord → IntervalRecord → Bool
same_interval =
    eq_of_both (on (λ i. i.node) ◌==◌)
    (eq_of_both (on (λ i. i.stamp) (pointwise ◌==◌)) (on (λ i. i.pages) (pointwise ◌==◌)))

-- the test of two lists of intervals, interval by interval, is an equivalence
pub same_intervals_equiv : IsEquivalence (pointwise same_interval)
same_intervals_equiv =
    lists_equiv (and_equiv (on_equiv (λ i. i.node) nat_eq_equiv)
    (and_equiv (on_equiv (λ i. i.stamp) (lists_equiv nat_eq_equiv)) (on_equiv (λ i. i.pages) (lists_equiv nat_eq_equiv))))

-- the interval at the end of a list
abbrev pub last_interval : List IntervalRecord → Option IntervalRecord
last_interval intervals = slice_get intervals (length intervals - 1)

-- the stamp counts the interval's node, and the interval itself; each page is named once, in order
pub record IsInterval (interval : IntervalRecord) : Type 0 where
  pub counted : interval.node < length interval.stamp
  pub begun : 1 ≤ index_of interval
  pub ascending : IsRising interval.pages
  pub in_range : All (λ page. page < MOST_PAGES) interval.pages

-- the first interval comes before the second by node, then index
abbrev pub by_node : IntervalRecord → IntervalRecord → Bool
by_node a b = nat_lt a.node b.node || ((a.node == b.node) && nat_lt (index_of a) (index_of b))

-- the first interval comes before the second by the weight of its stamp, then node, then index. Changes are applied in
-- this order: an interval that precedes another weighs less.
abbrev pub by_weight : IntervalRecord → IntervalRecord → Bool
by_weight a b =
    nat_lt (weight_of a.stamp) (weight_of b.stamp) || ((weight_of a.stamp == weight_of b.stamp) && by_node a b)
