-- The locks held at the positions so far.
use Rattle.lrc_why_chains.specs.Held.{AreHeld}
use Rattle.lrc_why_chains.proofs.held.held_at.Given as goal

abbrev pub invariant-loop-k : goal.invariant-loop-k
invariant-loop-k l = AreHeld l.acts l.node l.k l.held.items
