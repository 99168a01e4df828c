-- The pairs with the entries at the places so far are told.
use Rattle.std.proofs.Common.{◌≡◌, ◌++◌, length, take}
use Rattle.lrc_races_detector.specs.Placed.{row_in}
use Rattle.lrc_races_detector.specs.Variables.{told_below}
use Rattle.lrc_races_detector.specs.Vectors.{entries}
use Rattle.lrc_races_detector.proofs.variables.tell_all.Given as goal

abbrev pub invariant-loop-place : goal.invariant-loop-place
invariant-loop-place l = l.told.items ≡ l.initial.told.items ++ told_below (row_in l.lasts (take l.place-index l.order)) (entries l.known) l.later l.is_write
    (length (row_in l.lasts (take l.place-index l.order)))
