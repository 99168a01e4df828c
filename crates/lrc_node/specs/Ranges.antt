-- Whether what comes with a message is in range, with the numbers that a node has of nodes and pages.
use Rattle.std.specs.Prelude.{ℕ, ◌==◌, ◌&&◌, Bool, List, length, nat_le, nat_lt}
use Rattle.std.specs.List.{list_all, range_with_len}
use Rattle.lrc_time.specs.Time.{covers, entry}
use Rattle.lrc_store.specs.Interval.{IntervalRecord}
use Rattle.lrc_protocol.specs.Times.{are_between}

-- the interval is of one of so many nodes, its stamp has as many entries, and the pages that it names are below so many
abbrev pub is_in_range : ℕ → ℕ → IntervalRecord → Bool
is_in_range nodes pages interval =
    nat_lt interval.node nodes && (length interval.stamp == nodes) && list_all (λ page. nat_lt page pages) interval.pages

-- a time of so many entries that covers the stamps of intervals in range
abbrev pub fits : ℕ → ℕ → List ℕ → List IntervalRecord → Bool
fits nodes pages time intervals =
    (length time == nodes) && list_all (is_in_range nodes pages) intervals && list_all (λ interval. covers time interval.stamp) intervals

-- intervals that lead from one time to another, which knows no more of this node than the first
abbrev pub leads : ℕ → List ℕ → List ℕ → List IntervalRecord → Bool
leads me known time intervals =
    list_all (λ q. are_between intervals q (entry known q) (entry time q)) (range_with_len 0 (length known))
    && nat_le (entry time me) (entry known me)
