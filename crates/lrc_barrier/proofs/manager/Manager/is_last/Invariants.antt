use Rattle.std.proofs.Common.{ℕ, ◌≡◌, ◌≢◌, ◌<◌, true, None, get_or, is_some}
use Rattle.lrc_barrier.proofs.manager.Manager.is_last.Given as goal

abbrev pub invariant-loop-node : goal.invariant-loop-node
invariant-loop-node l = (k : ℕ) → k < l.node → k ≢ l.from → is_some (get_or l.self.arrivals k None) ≡ true
