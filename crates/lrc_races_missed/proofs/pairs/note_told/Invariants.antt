-- The lines of the pairs so far are added.
use Rattle.std.specs.Prelude.{AllPairs}
use Rattle.lrc_races_trace.specs.Races.{ComesFirst}
use Rattle.lrc_races_missed.proofs.PairLemmas.{AreAdded}
use Rattle.lrc_races_missed.proofs.pairs.note_told.Given as goal

abbrev pub invariant-loop-pair : goal.invariant-loop-pair
invariant-loop-pair l = AllPairs ComesFirst l.told → AreAdded l.keys.keys l.told l.pair-index l.initial.lines.items l.lines.items
