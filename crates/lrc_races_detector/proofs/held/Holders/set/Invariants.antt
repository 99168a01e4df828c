-- The holders are as they were.
use Rattle.std.proofs.Common.{◌≡◌, ℕ, ◌+◌, ◌-◌, vec_len}
use Rattle.lrc_races_detector.specs.Held.{holder_of}
use Rattle.lrc_races_detector.proofs.held.Holders.set.Given as goal

abbrev pub invariant-loop-self : goal.invariant-loop-self
invariant-loop-self l = (other : ℕ) → holder_of l.self other ≡ holder_of l.initial.self other

abbrev pub decreases-loop-self : goal.decreases-loop-self
decreases-loop-self l = (l.lock + 1) - vec_len l.self.holders
