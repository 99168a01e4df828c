-- The barriers are as they were.
use Rattle.std.proofs.Common.{ℕ, ◌+◌, ◌-◌, vec_len}
use Rattle.std.specs.Prelude.{slice_get}
use Rattle.lrc_races_detector.specs.Barriers.{SameBarrier}
use Rattle.lrc_races_why.proofs.cycles.reach.Given as goal

abbrev pub invariant-loop-alloc : goal.invariant-loop-alloc
invariant-loop-alloc l = (other : ℕ) → SameBarrier (slice_get l.barriers.items other) (slice_get l.initial.barriers.items other)

abbrev pub decreases-loop-alloc : goal.decreases-loop-alloc
decreases-loop-alloc l = (l.barrier + 1) - vec_len l.barriers
