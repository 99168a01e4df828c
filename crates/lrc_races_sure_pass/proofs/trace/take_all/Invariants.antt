-- What is told of the events so far is collected.
use Rattle.lrc_races_sure_pass.specs.Detecting.{HasTaken, AreSureToldBefore}
use Rattle.lrc_races_sure_pass.proofs.trace.take_all.Given as goal

abbrev pub invariant-loop-event : goal.invariant-loop-event
invariant-loop-event l = record {
  taken : HasTaken l.events l.event-index l.detector;
  told : AreSureToldBefore l.events l.event-index l.all.items;
}
