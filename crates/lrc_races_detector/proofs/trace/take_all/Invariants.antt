-- What is told of the events so far is collected.
use Rattle.lrc_races_detector.specs.Detecting.{HasTaken, AreToldBefore}
use Rattle.lrc_races_detector.proofs.trace.take_all.Given as goal

abbrev pub invariant-loop-event : goal.invariant-loop-event
invariant-loop-event l = record {
  taken : HasTaken l.events l.event-index l.detector;
  told : AreToldBefore l.events l.event-index l.all.items;
}
