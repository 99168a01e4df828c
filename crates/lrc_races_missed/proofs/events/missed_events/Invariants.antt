-- The lines so far are given.
use Rattle.lrc_races_witness.specs.Relations.{AreByLine}
use Rattle.lrc_races_missed.proofs.EventLemmas.{GivenLines}
use Rattle.lrc_races_missed.proofs.events.missed_events.Given as goal

abbrev pub invariant-loop-position : goal.invariant-loop-position
invariant-loop-position l = AreByLine l.events → GivenLines l.events l.marks l.keys.keys l.position l.lines.items
