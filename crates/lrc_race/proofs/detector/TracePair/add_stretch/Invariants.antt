use Rattle.lrc_judge.specs.Adding.{Adds}
use Rattle.lrc_judge.proofs.Additions.{IsBelow}
use Rattle.lrc_race.proofs.Stretches.{IsStretchAt}
use Rattle.lrc_race.proofs.detector.TracePair.add_stretch.Given as goal

-- the races with the places so far are added
abbrev pub invariant-loop-k : goal.invariant-loop-k
invariant-loop-k l =
    Adds l.fn.races.items l.races.items (IsBelow (IsStretchAt l.fn.self.a.now l.fn.x l.fn.self.b.now l.fn.ys l.fn.from) l.k)
