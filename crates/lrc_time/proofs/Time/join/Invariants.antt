use Rattle.std.proofs.Common.{◌≡◌, ℕ, ◌<◌, ◌≤◌}
use Rattle.lrc_time.specs.Time.{entry, joined}
use Rattle.lrc_time.proofs.Time.join.Given as goal

abbrev pub invariant-loop-node : goal.invariant-loop-node
invariant-loop-node l = record {
  same_join : joined l.entries l.other ≡ joined l.initial.entries l.other;
  above : (node : ℕ) → node < l.node → entry l.other node ≤ entry l.entries node;
}
