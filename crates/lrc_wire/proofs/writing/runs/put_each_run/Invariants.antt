use Rattle.std.proofs.Common.{◌≡◌, ◌++◌, ◌-◌, ◌≤◌, length, take, drop}
use Rattle.std.specs.Prelude.{All}
use Rattle.std.specs.List.{flat_map}
use Rattle.lrc_wire.specs.Ranges.{HasBits}
use Rattle.lrc_wire.specs.Runs.{runs_of}
use Rattle.lrc_wire.specs.Spelling.{run}
use Rattle.lrc_wire.proofs.writing.runs.put_each_run.Given as goal

abbrev pub invariant-loop-start : goal.invariant-loop-start
invariant-loop-start l = record {
  written : l.out.items ++ flat_map run (runs_of (drop l.start l.changes)) ≡ l.fn.out.items ++ flat_map run (runs_of l.changes);
  within : l.start ≤ length l.changes;
  bits : All (λ c. HasBits 64 c.value) (take l.start l.changes);
}

abbrev pub decreases-loop-start : goal.decreases-loop-start
decreases-loop-start l = length l.changes - l.start
