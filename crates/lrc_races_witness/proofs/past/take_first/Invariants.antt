-- The events so far are taken.
use Rattle.lrc_races_detector.specs.Detecting.{HasTaken}
use Rattle.lrc_races_witness.proofs.past.take_first.Given as goal

abbrev pub invariant-loop-position : goal.invariant-loop-position
invariant-loop-position l = HasTaken l.events l.position l.detector
