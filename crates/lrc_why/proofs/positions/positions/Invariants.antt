-- Those of the positions so far.
use Rattle.lrc_why_chains.specs.Writes.{AreExactly}
use Rattle.lrc_why_chains.proofs.Exactly.{IsBelow}
use Rattle.lrc_why.specs.Positions.{IsAsked}
use Rattle.lrc_why.proofs.positions.positions.Given as goal

abbrev pub invariant-loop-k : goal.invariant-loop-k
invariant-loop-k l = AreExactly (IsBelow (IsAsked l.acts l.which) l.k) l.found.items
