-- The events so far are taken.
use Rattle.lrc_races_locations.specs.Taking.{HasLocated}
use Rattle.lrc_races_locations.proofs.detector.locations_of.Given as goal

abbrev pub invariant-loop-event : goal.invariant-loop-event
invariant-loop-event l = HasLocated l.fn.sought l.events l.event-index l.detector
