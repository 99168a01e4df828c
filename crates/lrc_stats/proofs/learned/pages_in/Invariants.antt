use Rattle.std.proofs.Common.{◌≡◌, length, take}
use Rattle.std.specs.Prelude.{sum_by}
use Rattle.lrc_stats.proofs.learned.pages_in.Given as goal

-- the pages of the intervals so far
abbrev pub invariant-loop-interval : goal.invariant-loop-interval
invariant-loop-interval l = l.count ≡ sum_by (λ interval. length interval.pages) (take l.interval-index l.intervals)
