use Rattle.std.proofs.Common.{◌≡◌, true}
use Rattle.std.specs.Prelude.{take}
use Rattle.std.specs.List.{list_all}
use Rattle.lrc_time.specs.Time.{covers}
use Rattle.lrc_node.proofs.intervals.ranges.all_covered.Given as goal

abbrev pub invariant-loop-interval : goal.invariant-loop-interval
invariant-loop-interval l = list_all (λ interval. covers l.time interval.stamp) (take l.interval-index l.intervals) ≡ true
