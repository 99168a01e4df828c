-- None of the indices that the loop has passed is over its size.
use Rattle.std.proofs.Common.{map, take}
use Rattle.lrc_named_expression_faults.specs.View.{scope_of}
use Rattle.lrc_named_index_hint.specs.Spots.{spot_seen}
use Rattle.lrc_named_index_hint.proofs.Finding.{IsNoneOver}
use Rattle.lrc_named_index_hint.proofs.over.one_over.Given as goal

abbrev pub invariant-loop-spot : goal.invariant-loop-spot
invariant-loop-spot l = IsNoneOver (scope_of l.scope) (map spot_seen (take l.spot-index l.spots))
