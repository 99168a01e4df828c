-- No release of the lock stands from here on and before the position.
use Rattle.std.proofs.Common.{ℕ, ◌≤◌}
use Rattle.lrc_why.specs.About.{IsEarlierRelease}
use Rattle.lrc_why.proofs.about.last_release.Given as goal

abbrev pub invariant-loop-k : goal.invariant-loop-k
invariant-loop-k l = (m : ℕ) → l.k ≤ m → IsEarlierRelease l.acts l.lock l.position m → ⊥
