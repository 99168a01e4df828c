-- The known writes so far.
use Rattle.lrc_why_chains.specs.Writes.{AreExactly, IsKnownWrite}
use Rattle.lrc_why_chains.proofs.Exactly.{IsBelow}
use Rattle.lrc_why_chains.proofs.writes.known_writes.Given as goal

abbrev pub invariant-loop-k : goal.invariant-loop-k
invariant-loop-k l = AreExactly (IsBelow (IsKnownWrite l.acts l.position l.word) l.k) l.writes.items
