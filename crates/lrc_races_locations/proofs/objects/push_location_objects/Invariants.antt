-- The objects so far are added.
use Rattle.std.proofs.Common.{◌≡◌, ◌++◌, take}
use Rattle.lrc_races_text.specs.Tables.{naming_of}
use Rattle.lrc_races_locations.specs.Layouts.{location_objects}
use Rattle.lrc_races_locations.proofs.objects.push_location_objects.Given as goal

abbrev pub invariant-loop-pair : goal.invariant-loop-pair
invariant-loop-pair l = l.text.items ≡ l.initial.text.items ++ location_objects (naming_of l.names) (take l.pair-index l.pairs)
