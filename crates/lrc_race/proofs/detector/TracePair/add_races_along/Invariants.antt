use Rattle.std.proofs.Common.{◌≡◌, ℕ, ◌<◌, ◌≤◌, Some, length, take}
use Rattle.std.specs.Prelude.{slice_get}
use Rattle.lrc_race.specs.declared.places.TouchedPlace.{TouchedPlace}
use Rattle.lrc_judge.specs.Adding.{Adds, IsOfSome}
use Rattle.lrc_race.specs.Pairs.{IsBehind, IsRaceOfPlaces}
use Rattle.lrc_race.proofs.detector.TracePair.add_races_along.Given as goal

-- The races of the places so far are added, and what was passed by is behind all that follow.
abbrev pub invariant-loop-x : goal.invariant-loop-x
invariant-loop-x l = record {
  within : l.start ≤ length l.fn.ys;
  behind : (i k : ℕ) (x y : TouchedPlace) → l.x-index ≤ i → slice_get l.fn.xs i ≡ Some x → k < l.start → slice_get l.fn.ys k ≡ Some y
      → IsBehind l.fn.self.rise l.fn.self.a.now x l.fn.self.b.now y;
  added : Adds l.fn.races.items l.races.items
      (IsOfSome (take l.x-index l.fn.xs) (λ x. IsOfSome l.fn.ys (IsRaceOfPlaces l.fn.self.a.now x l.fn.self.b.now)));
}
