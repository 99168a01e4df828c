use Rattle.std.proofs.Common.{ℕ, ◌≡◌, ◌<◌, ◌≤◌, true, length, get_or}
use Rattle.lrc_store.specs.Interval.{IntervalRecord}
use Rattle.lrc_barrier.specs.Barrier.{is_news}
use Rattle.lrc_barrier.proofs.departing.first_news.Given as goal

abbrev pub invariant-loop-start : goal.invariant-loop-start
invariant-loop-start l = record {
  within : l.start ≤ length l.intervals;
  news : (k : ℕ) (d : IntervalRecord) → l.start ≤ k → k < length l.intervals → is_news l.since (get_or l.intervals k d) ≡ true;
}

abbrev pub decreases-loop-start : goal.decreases-loop-start
decreases-loop-start l = l.start
