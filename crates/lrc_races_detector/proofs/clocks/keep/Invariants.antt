-- What is kept is as it was.
use Rattle.std.proofs.Common.{◌≡◌, ℕ, ◌+◌, ◌-◌, vec_len}
use Rattle.std.specs.Prelude.{slice_get}
use Rattle.lrc_races_detector.specs.Within.{within_at}
use Rattle.lrc_races_detector.proofs.clocks.keep.Given as goal

abbrev pub invariant-loop-within : goal.invariant-loop-within
invariant-loop-within l = (k : ℕ) → within_at (slice_get l.within.items k) ≡ within_at (slice_get l.initial.within.items k)

abbrev pub decreases-loop-within : goal.decreases-loop-within
decreases-loop-within l = (l.one + 1) - vec_len l.within
