-- The barriers are as they were.
use Rattle.std.proofs.Common.{ℕ, ◌+◌, ◌-◌, vec_len}
use Rattle.std.specs.Prelude.{slice_get}
use Rattle.lrc_races_detector.specs.Barriers.{SameBarrier}
use Rattle.lrc_races_detector.proofs.barriers.Barriers.reach.Given as goal

abbrev pub invariant-loop-alloc : goal.invariant-loop-alloc
invariant-loop-alloc l = (other : ℕ) → SameBarrier (slice_get l.self.barriers.items other) (slice_get l.initial.self.barriers.items other)

abbrev pub decreases-loop-alloc : goal.decreases-loop-alloc
decreases-loop-alloc l = (l.barrier + 1) - vec_len l.self.barriers
