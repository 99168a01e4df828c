-- The rows are as they were.
use Rattle.std.proofs.Common.{◌≡◌, ℕ, ◌+◌, ◌-◌, vec_len}
use Rattle.lrc_races_detector.specs.Within.{row_in}
use Rattle.lrc_races_detector.proofs.clocks.reach.Given as goal

abbrev pub invariant-loop-alloc : goal.invariant-loop-alloc
invariant-loop-alloc l = (other : ℕ) → row_in l.rows.items other ≡ row_in l.initial.rows.items other

abbrev pub decreases-loop-alloc : goal.decreases-loop-alloc
decreases-loop-alloc l = (l.index + 1) - vec_len l.rows
