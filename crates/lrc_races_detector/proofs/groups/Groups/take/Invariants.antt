-- The first pairs are taken.
use Rattle.std.proofs.Common.{List, ◌++◌, take}
use Rattle.lrc_races_trace.specs.declared.event.Pair.{Pair}
use Rattle.lrc_races_detector.specs.Grouping.{AreGrouped}
use Rattle.lrc_races_detector.proofs.groups.Groups.take.Given as goal

abbrev pub invariant-loop-pair : goal.invariant-loop-pair
invariant-loop-pair l = (before : List Pair) → AreGrouped before l.initial.self → AreGrouped (before ++ take l.pair-index l.pairs) l.self
