-- No release or arrive of the node stands from the position on and before here.
use Rattle.std.proofs.Common.{ℕ, ◌<◌}
use Rattle.lrc_why.specs.Spread.{IsTelling}
use Rattle.lrc_why.proofs.spread.first_telling.Given as goal

abbrev pub invariant-loop-k : goal.invariant-loop-k
invariant-loop-k l = (m : ℕ) → m < l.k → IsTelling l.acts l.node l.position m → ⊥
