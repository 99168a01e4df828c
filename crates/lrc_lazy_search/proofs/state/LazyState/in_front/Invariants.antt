-- None of the nodes so far can do something other than acquire a lock.
use Rattle.std.proofs.Common.{ℕ, ◌<◌}
use Rattle.lrc_lazy_search.specs.Searching.{IsInFront}
use Rattle.lrc_lazy_search.proofs.state.LazyState.in_front.Given as goal

abbrev pub invariant-loop-node : goal.invariant-loop-node
invariant-loop-node l = (n : ℕ) → n < l.node → IsInFront l.flat l.self n → ⊥
