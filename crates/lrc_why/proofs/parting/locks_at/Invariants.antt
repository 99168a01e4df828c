-- The locks so far.
use Rattle.std.proofs.Common.{◌<◌}
use Rattle.lrc_trace.specs.Synchronization.{Holds}
use Rattle.lrc_why_chains.specs.Writes.{AreExactly}
use Rattle.lrc_why_chains.proofs.Exactly.{IsBelow}
use Rattle.lrc_why.proofs.parting.locks_at.Given as goal

abbrev pub invariant-loop-lock : goal.invariant-loop-lock
invariant-loop-lock l = AreExactly (IsBelow (λ k. (k < 256) × Holds l.acts l.position l.node k) l.lock) l.locks.items
