-- The events so far are taken and marked.
use Rattle.lrc_races_text.specs.Detecting.{HasTaken}
use Rattle.lrc_races_claims.specs.Racing.{AreMarked}
use Rattle.lrc_races_claims.proofs.racing.marks_of.Given as goal

abbrev pub invariant-loop-event : goal.invariant-loop-event
invariant-loop-event l = record {
  taken : HasTaken l.fn.sought l.events l.event-index l.detector;
  marked : AreMarked l.fn.sought l.events l.event-index l.marks.items;
}
