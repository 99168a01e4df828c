-- No act of the node that is not before here is known.
use Rattle.std.proofs.Common.{ℕ, ◌≤◌}
use Rattle.lrc_trace.specs.Order.{HappensBefore}
use Rattle.lrc_why_chains.specs.Known.{IsActOf}
use Rattle.lrc_why_chains.proofs.known.last_known.Given as goal

abbrev pub invariant-loop-k : goal.invariant-loop-k
invariant-loop-k l = (m : ℕ) → l.k ≤ m → IsActOf l.acts l.node m → HappensBefore l.acts m l.position → ⊥
