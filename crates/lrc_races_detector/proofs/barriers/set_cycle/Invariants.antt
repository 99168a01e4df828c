-- The cycles are as they were.
use Rattle.std.proofs.Common.{◌≡◌, ℕ, ◌+◌, ◌-◌, vec_len}
use Rattle.std.specs.Prelude.{slice_get}
use Rattle.lrc_races_detector.specs.Barriers.{cycle_at}
use Rattle.lrc_races_detector.proofs.barriers.set_cycle.Given as goal

abbrev pub invariant-loop-of : goal.invariant-loop-of
invariant-loop-of l = (other : ℕ) → cycle_at (slice_get l.of.items other) ≡ cycle_at (slice_get l.initial.of.items other)

abbrev pub decreases-loop-of : goal.decreases-loop-of
decreases-loop-of l = (l.thread + 1) - vec_len l.of
