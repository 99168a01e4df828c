-- No write stands from here on and before the position.
use Rattle.std.proofs.Common.{ℕ, ◌<◌, ◌≤◌}
use Rattle.lrc_why_chains.specs.Writes.{IsWrite}
use Rattle.lrc_why_chains.proofs.writes.last_written.Given as goal

abbrev pub invariant-loop-k : goal.invariant-loop-k
invariant-loop-k l = (m : ℕ) → l.k ≤ m → m < l.position → IsWrite l.acts l.word m → ⊥
