-- The list has grown by the indices that the loop has passed.
use Rattle.std.proofs.Common.{◌≡◌, ◌++◌, map, take}
use Rattle.lrc_named_tree.specs.View.{expressions_of, named_of}
use Rattle.lrc_named_index_hint.specs.Spots.{spot_seen, spots_among}
use Rattle.lrc_named_index_hint.proofs.spots.push_among.Given as goal

abbrev pub invariant-loop-number : goal.invariant-loop-number
invariant-loop-number l =
    map spot_seen l.spots.items ≡ map spot_seen l.initial.spots.items ++ spots_among l.at (named_of l.name) 0 (expressions_of (take l.number l.indices))
