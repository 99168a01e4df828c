-- The locks that the thread came to hold before here, and has held since.
use Rattle.lrc_races_why.proofs.Holding.{AreHeldBelow}
use Rattle.lrc_races_why.proofs.held.held_at.Given as goal

abbrev pub invariant-loop-at : goal.invariant-loop-at
invariant-loop-at l = AreHeldBelow l.events l.thread l.position l.at l.locks.items
