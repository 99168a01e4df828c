-- All threads wait as they did.
use Rattle.std.proofs.Common.{◌≡◌, ℕ, ◌+◌, ◌-◌, vec_len}
use Rattle.lrc_races_detector.specs.Waits.{waiting_of}
use Rattle.lrc_races_detector.proofs.waits.Waits.set.Given as goal

abbrev pub invariant-loop-self : goal.invariant-loop-self
invariant-loop-self l = (other : ℕ) → waiting_of l.self other ≡ waiting_of l.initial.self other

abbrev pub decreases-loop-self : goal.decreases-loop-self
decreases-loop-self l = (l.thread + 1) - vec_len l.self.threads
