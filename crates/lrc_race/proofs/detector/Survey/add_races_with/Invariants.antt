use Rattle.lrc_judge.specs.Adding.{Adds}
use Rattle.lrc_race.specs.Pairs.{IsRaceOfTraces}
use Rattle.lrc_judge.proofs.Additions.{IsBelow}
use Rattle.lrc_race.proofs.detector.Survey.add_races_with.Given as goal

-- the races with the traces so far are added
abbrev pub invariant-loop-j : goal.invariant-loop-j
invariant-loop-j l = Adds l.fn.races.items l.races.items (IsBelow (IsRaceOfTraces l.fn.self.traces.now l.fn.i) l.j)
