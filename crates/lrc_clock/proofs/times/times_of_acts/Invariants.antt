use Rattle.std.proofs.Common.{take}
use Rattle.lrc_clock.specs.Keeping.{KeepsTime}
use Rattle.lrc_clock.specs.Past.{IsTimedPast}
use Rattle.lrc_clock.proofs.times.times_of_acts.Given as goal

-- the times of the acts so far, and what these leave
abbrev pub invariant-loop-position : goal.invariant-loop-position
invariant-loop-position l = record {
  keeps : KeepsTime l.nodes (take l.position l.acts) l.times.items;
  past : IsTimedPast l.nodes (take l.position l.acts) l.times.items l.past;
}
