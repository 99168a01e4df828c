use Rattle.std.proofs.Common.{◌≡◌, ℕ, ◌-◌, ◌<◌, ◌≤◌, Some, length}
use Rattle.std.specs.Prelude.{slice_get}
use Rattle.lrc_race.specs.declared.places.TouchedPlace.{TouchedPlace}
use Rattle.lrc_race.specs.Pairs.{IsBehind}
use Rattle.lrc_race.proofs.detector.TracePair.skip.Given as goal

-- the places so far are behind
abbrev pub invariant-loop-start : goal.invariant-loop-start
invariant-loop-start l = record {
  within : l.start ≤ length l.ys;
  behind : (k : ℕ) (y : TouchedPlace) → l.from ≤ k → k < l.start → slice_get l.ys k ≡ Some y → IsBehind l.self.rise l.self.a.now l.x l.self.b.now y;
}

abbrev pub decreases-loop-start : goal.decreases-loop-start
decreases-loop-start l = length l.ys - l.start
