-- The events so far are looked through.
use Rattle.lrc_races_detector.specs.Finding.{HasLooked}
use Rattle.lrc_races_text.proofs.ill.first_ill.Given as goal

abbrev pub invariant-loop-event : goal.invariant-loop-event
invariant-loop-event l = HasLooked l.events l.event-index l.finder
