-- The tally is that of the positions so far.
use Rattle.std.proofs.Common.{Bool}
use Rattle.lrc_judge.specs.Tally.{IsTally}
use Rattle.lrc_judge.proofs.reading.tally_of.Given as goal

abbrev pub invariant-loop-earlier : goal.invariant-loop-earlier
invariant-loop-earlier l = (w : Bool) × IsTally l.acts l.position l.word 0 l.earlier w l.tally.are_ordered l.tally.last
