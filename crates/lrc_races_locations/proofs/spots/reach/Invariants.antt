-- The rows are as they were.
use Rattle.std.proofs.Common.{◌≡◌, ℕ, ◌+◌, ◌-◌, vec_len}
use Rattle.lrc_races_locations.specs.Spots.{row_of}
use Rattle.lrc_races_locations.proofs.spots.reach.Given as goal

abbrev pub invariant-loop-alloc : goal.invariant-loop-alloc
invariant-loop-alloc l = (other : ℕ) → row_of l.rows.items other ≡ row_of l.initial.rows.items other

abbrev pub decreases-loop-alloc : goal.decreases-loop-alloc
decreases-loop-alloc l = (l.variable + 1) - vec_len l.rows
