-- Those of the events so far are there.
use Rattle.lrc_races_witness.specs.Relations.{AreByLine}
use Rattle.lrc_races_missed.proofs.VariableLemmas.{GivenRacing}
use Rattle.lrc_races_missed.proofs.variables.racing_of.Given as goal

abbrev pub invariant-loop-event : goal.invariant-loop-event
invariant-loop-event l = AreByLine l.events → GivenRacing l.events l.facts l.event-index l.all.items
