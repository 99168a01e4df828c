-- The pairs of the entries so far are added.
use Rattle.std.proofs.Common.{take}
use Rattle.lrc_judge.specs.Adding.{Adds}
use Rattle.lrc_judge.specs.Pairs.{IsCrossing}
use Rattle.lrc_judge.proofs.pairs.add_crossing.Given as goal

abbrev pub invariant-loop-entry : goal.invariant-loop-entry
invariant-loop-entry l = Adds l.fn.pairs.items l.pairs.items (IsCrossing (take l.entry-index l.from) l.among l.order)
