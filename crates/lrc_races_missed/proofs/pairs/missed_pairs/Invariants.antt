-- The lines of the pairs that are told of the events so far are there.
use Rattle.lrc_races_text.specs.Detecting.{HasTaken}
use Rattle.lrc_races_missed.proofs.PairLemmas.{AreBefore}
use Rattle.lrc_races_missed.proofs.pairs.missed_pairs.Given as goal

abbrev pub invariant-loop-event : goal.invariant-loop-event
invariant-loop-event l = record {
  taken : HasTaken l.fn.sought l.events l.event-index l.detector;
  missed : AreBefore l.fn.sought l.events l.keys.keys l.event-index l.lines.items;
}
