use Rattle.std.proofs.Common.{◌≡◌, ℕ, ◌<◌, ◌≤◌, length}
use Rattle.std.specs.Prelude.{slice_set}
use Rattle.lrc_time.specs.Time.{entry}
use Rattle.lrc_node.proofs.barriers.begin.with_entry.Given as goal

abbrev pub invariant-loop-at : goal.invariant-loop-at
invariant-loop-at l = record {
  counted : length l.other ≡ length l.time;
  below : (q : ℕ) → q < l.at → entry l.other q ≡ entry (slice_set l.time l.node l.entry) q;
  above : (q : ℕ) → l.at ≤ q → entry l.other q ≡ 0;
}
