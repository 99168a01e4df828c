-- What threads share is as it was.
use Rattle.std.proofs.Common.{◌≡◌, ℕ, ◌+◌, ◌-◌, vec_len}
use Rattle.std.specs.Prelude.{slice_get}
use Rattle.lrc_races_detector.specs.Barriers.{shared_at}
use Rattle.lrc_races_detector.proofs.barriers.share.Given as goal

abbrev pub invariant-loop-closed : goal.invariant-loop-closed
invariant-loop-closed l = (other : ℕ) → shared_at (slice_get l.closed.items other) ≡ shared_at (slice_get l.initial.closed.items other)

abbrev pub decreases-loop-closed : goal.decreases-loop-closed
decreases-loop-closed l = (l.thread + 1) - vec_len l.closed
