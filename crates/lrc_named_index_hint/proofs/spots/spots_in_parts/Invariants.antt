-- The indices in the parts that the loop has passed.
use Rattle.std.proofs.Common.{◌≡◌, map, take}
use Rattle.lrc_named_statement_faults.specs.Parts.{part_seen}
use Rattle.lrc_named_index_hint.specs.Spots.{spot_seen, spots_in_parts}
use Rattle.lrc_named_index_hint.proofs.spots.spots_in_parts.Given as goal

abbrev pub invariant-loop-part : goal.invariant-loop-part
invariant-loop-part l = map spot_seen l.spots.items ≡ spots_in_parts l.at (map part_seen (take l.part-index l.parts))
