-- None of the accesses before this one races, and it is of the same lane.
use Rattle.std.proofs.Common.{◌≡◌, ◌-◌, ◌<◌, ◌≤◌, get_or, length}
use Rattle.lrc_trace.specs.declared.act.Act.{Act}
use Rattle.lrc_why.specs.Deeds.{word_accessed}
use Rattle.lrc_why.specs.Lanes.{lane_at, lane_of}
use Rattle.lrc_why.proofs.Chaining.{NoneRaces}
use Rattle.lrc_why.proofs.least.least_racing.Given as goal

abbrev pub invariant-loop-k : goal.invariant-loop-k
invariant-loop-k l = record {
  none : NoneRaces l.acts l.node l.position l.k;
  within : l.k ≤ length l.acts;
  there : (d : Act) → l.k < length l.acts → lane_at (get_or l.acts l.k d) ≡ lane_of l.node (word_accessed (get_or l.acts l.position d).deed);
}

abbrev pub decreases-loop-k : goal.decreases-loop-k
decreases-loop-k l = length l.acts - l.k
