-- The places of the names from the present one on.
use Rattle.lrc_named_expression_faults.proofs.Spelling.{ArePlacesFrom}
use Rattle.lrc_named_expression_faults.proofs.spelled.Spelled.of.Given as goal

abbrev pub invariant-loop-i : goal.invariant-loop-i
invariant-loop-i l = ArePlacesFrom l.i l.names l.places
