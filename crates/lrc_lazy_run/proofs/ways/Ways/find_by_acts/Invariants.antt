-- The states before the place were passed.
use Rattle.std.proofs.Common.{◌+◌, ◌-◌}
use Rattle.lrc_lazy_run.specs.Ways.{ArePassed, AreWays}
use Rattle.lrc_lazy_run.proofs.ways.Ways.find_by_acts.Given as goal

abbrev pub invariant-loop-place : goal.invariant-loop-place
invariant-loop-place l = record {
  ways : AreWays l.sought l.self;
  passed : ArePassed l.sought.flat l.self.states.keys l.notes l.place;
}

abbrev pub decreases-loop-place : goal.decreases-loop-place
decreases-loop-place l = l.sought.most + 1 - l.place
