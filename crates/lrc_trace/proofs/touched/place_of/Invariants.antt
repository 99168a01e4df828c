use Rattle.std.proofs.Common.{ℕ, ◌-◌, ◌<◌, ◌≤◌, length, get_or}
use Rattle.lrc_trace.specs.declared.touched.TouchedPage.{TouchedPage}
use Rattle.lrc_trace.proofs.touched.place_of.Given as goal

abbrev pub invariant-loop-low : goal.invariant-loop-low
invariant-loop-low l = record {
  ordered : l.low ≤ l.high;
  within : l.high ≤ length l.pages;
  before : (k : ℕ) (d : TouchedPage) → k < l.low → (get_or l.pages k d).page < l.page;
  after : (k : ℕ) (d : TouchedPage) → l.high ≤ k → k < length l.pages → l.page ≤ (get_or l.pages k d).page;
}

abbrev pub decreases-loop-low : goal.decreases-loop-low
decreases-loop-low l = l.high - l.low
