-- The list has grown by the indices in the expressions that the loop has passed.
use Rattle.std.proofs.Common.{◌≡◌, ◌++◌, map, take}
use Rattle.lrc_named_tree.specs.View.{expressions_of}
use Rattle.lrc_named_index_hint.specs.Spots.{spot_seen, spots_in_all}
use Rattle.lrc_named_index_hint.proofs.spots.+spots.Given as goal

abbrev pub invariant-push_all-loop-expression : goal.invariant-push_all-loop-expression
invariant-push_all-loop-expression l =
    map spot_seen l.spots.items ≡ map spot_seen l.initial.spots.items ++ spots_in_all l.at (expressions_of (take l.expression-index l.expressions))
