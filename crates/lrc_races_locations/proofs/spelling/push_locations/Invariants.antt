-- The lines so far are added.
use Rattle.std.proofs.Common.{◌≡◌, ◌++◌, take}
use Rattle.lrc_races_text.specs.Tables.{naming_of}
use Rattle.lrc_races_locations.specs.Spelled.{locations_lines}
use Rattle.lrc_races_locations.proofs.spelling.push_locations.Given as goal

abbrev pub invariant-loop-pair : goal.invariant-loop-pair
invariant-loop-pair l = l.text.items ≡ l.initial.text.items ++ locations_lines l.form (naming_of l.names) (take l.pair-index l.pairs)
