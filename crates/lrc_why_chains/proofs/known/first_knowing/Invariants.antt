-- No act of the node before here knows of the position.
use Rattle.std.proofs.Common.{ℕ, ◌<◌}
use Rattle.lrc_trace.specs.Order.{HappensBefore}
use Rattle.lrc_why_chains.specs.Known.{IsActOf}
use Rattle.lrc_why_chains.proofs.known.first_knowing.Given as goal

abbrev pub invariant-loop-k : goal.invariant-loop-k
invariant-loop-k l = (m : ℕ) → m < l.k → IsActOf l.acts l.node m → HappensBefore l.acts l.position m → ⊥
