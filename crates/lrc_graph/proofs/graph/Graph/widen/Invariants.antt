-- There are no more places than there are to be, and the edges are those from before.
use Rattle.std.proofs.Common.{ℕ, ◌≤◌, ◌-◌, length}
use Rattle.std.specs.Prelude.{◌↔◌}
use Rattle.lrc_graph.specs.Graph.{HasEdge}
use Rattle.lrc_graph.proofs.graph.Graph.widen.Given as goal

abbrev pub invariant-loop-alloc : goal.invariant-loop-alloc
invariant-loop-alloc l = (length l.self.before.items ≤ l.count) × ((from to : ℕ) → (HasEdge l.self from to ↔ HasEdge l.fn.self from to))

abbrev pub decreases-loop-alloc : goal.decreases-loop-alloc
decreases-loop-alloc l = l.count - length l.self.before.items
