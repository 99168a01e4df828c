use Rattle.std.proofs.Common.{◌≡◌, ◌+◌, ◌-◌, ◌≤◌, length, drop}
use Rattle.lrc_wire.specs.Runs.{runs_of}
use Rattle.lrc_wire.proofs.writing.runs.count_runs.Given as goal

abbrev pub invariant-loop-start : goal.invariant-loop-start
invariant-loop-start l = record {
  exact : l.count + length (runs_of (drop l.start l.changes)) ≡ length (runs_of l.changes);
  within : l.start ≤ length l.changes;
  few : l.count ≤ l.start;
}

abbrev pub decreases-loop-start : goal.decreases-loop-start
decreases-loop-start l = length l.changes - l.start
