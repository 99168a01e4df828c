use Rattle.std.proofs.Common.{◌-◌, ◌≤◌, length}
use Rattle.lrc_race.specs.Epochs.{KnowsBelow}
use Rattle.lrc_race.proofs.epochs.skip_known.Given as goal

-- the segments so far are known
abbrev pub invariant-loop-start : goal.invariant-loop-start
invariant-loop-start l = record {
  within : l.start ≤ length l.segments;
  known : KnowsBelow l.fn.a l.fn.t l.start;
}

abbrev pub decreases-loop-start : goal.decreases-loop-start
decreases-loop-start l = length l.segments - l.start
