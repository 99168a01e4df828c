use Rattle.std.proofs.Common.{◌≡◌, ◌<◌, ℕ}
use Rattle.lrc_time.specs.Time.{entry}
use Rattle.lrc_memory.proofs.learning.is_last.Given as goal

abbrev pub invariant-loop-node : goal.invariant-loop-node
invariant-loop-node l = (q : ℕ) → q < l.node → entry l.time q ≡ entry l.store.last q
