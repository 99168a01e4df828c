-- The rows are as they were.
use Rattle.std.proofs.Common.{◌≡◌, ℕ, ◌+◌, ◌-◌, vec_len}
use Rattle.lrc_races_detector.specs.Variables.{lasts_of}
use Rattle.lrc_races_detector.proofs.variables.Variables.reach.Given as goal

abbrev pub invariant-loop-alloc : goal.invariant-loop-alloc
invariant-loop-alloc l = (other : ℕ) → lasts_of l.self other ≡ lasts_of l.initial.self other

abbrev pub decreases-loop-alloc : goal.decreases-loop-alloc
decreases-loop-alloc l = (l.variable + 1) - vec_len l.self.rows
