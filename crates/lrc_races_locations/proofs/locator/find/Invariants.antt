-- The accesses of the row from here on are noted.
use Rattle.std.proofs.Common.{◌<◌}
use Rattle.std.specs.Prelude.{AllPairs}
use Rattle.lrc_races_trace.specs.declared.event.Placed.{Placed}
use Rattle.lrc_races_detector.specs.Vectors.{entries}
use Rattle.lrc_races_locations.specs.Finding.{AreFoundFrom}
use Rattle.lrc_races_locations.proofs.locator.find.Given as goal

abbrev pub invariant-loop-place : goal.invariant-loop-place
invariant-loop-place l = AllPairs (λ (p q : Placed). p.position < q.position) l.row
    → AreFoundFrom l.place l.row (entries l.known) l.later l.initial.sides.keys l.sides.keys l.found.items
