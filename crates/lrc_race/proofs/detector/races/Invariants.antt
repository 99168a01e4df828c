use Rattle.std.proofs.Common.{[]}
use Rattle.lrc_judge.specs.Adding.{Adds}
use Rattle.lrc_judge.proofs.Additions.{IsBelow}
use Rattle.lrc_race.proofs.Found.{IsRaceOfTrace}
use Rattle.lrc_race.proofs.detector.races.Given as goal

-- the races of the traces so far are there
abbrev pub invariant-loop-i : goal.invariant-loop-i
invariant-loop-i l = Adds [] l.races.items (IsBelow (IsRaceOfTrace l.fn.traces) l.i)
