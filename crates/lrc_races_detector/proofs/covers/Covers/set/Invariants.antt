-- The covers are as they were.
use Rattle.std.proofs.Common.{◌≡◌, ℕ, ◌+◌, ◌-◌, vec_len}
use Rattle.lrc_races_detector.specs.Covers.{cover_of}
use Rattle.lrc_races_detector.proofs.covers.Covers.set.Given as goal

abbrev pub invariant-loop-self : goal.invariant-loop-self
invariant-loop-self l = (other : ℕ) → cover_of l.self other ≡ cover_of l.initial.self other

abbrev pub decreases-loop-self : goal.decreases-loop-self
decreases-loop-self l = (l.variable + 1) - vec_len l.self.covers
