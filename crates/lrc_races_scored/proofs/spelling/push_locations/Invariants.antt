-- The lines so far are added.
use Rattle.std.proofs.Common.{◌≡◌, ◌++◌, take}
use Rattle.std.specs.Prelude.{flat_map}
use Rattle.lrc_races_text.specs.Tables.{naming_of}
use Rattle.lrc_races_scored.specs.Spelled.{locations_line}
use Rattle.lrc_races_scored.proofs.spelling.push_locations.Given as goal

abbrev pub invariant-loop-pair : goal.invariant-loop-pair
invariant-loop-pair l = l.text.items ≡ l.initial.text.items ++ flat_map (locations_line (naming_of l.names)) (take l.pair-index l.pairs)
