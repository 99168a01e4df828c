-- The objects so far are added.
use Rattle.std.proofs.Common.{◌≡◌, ◌++◌, take}
use Rattle.lrc_races_text.specs.Tables.{naming_of}
use Rattle.lrc_races_text.specs.Objects.{race_objects}
use Rattle.lrc_races_text.proofs.objects.push_pair_objects.Given as goal

abbrev pub invariant-loop-pair : goal.invariant-loop-pair
invariant-loop-pair l = l.text.items ≡ l.initial.text.items ++ race_objects (naming_of l.names) (take l.pair-index l.pairs)
