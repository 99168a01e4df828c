-- Those of the positions so far.
use Rattle.lrc_why_chains.specs.Writes.{AreExactly}
use Rattle.lrc_why_chains.proofs.Exactly.{IsBelow}
use Rattle.lrc_step.specs.Told.{IsTold}
use Rattle.lrc_step.proofs.told.positions_told.Given as goal

abbrev pub invariant-loop-position : goal.invariant-loop-position
invariant-loop-position l = AreExactly (IsBelow (IsTold l.acts l.part) l.position) l.found.items
