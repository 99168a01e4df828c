-- The words that are read so far.
use Rattle.lrc_judge.specs.Reading.{AreRead}
use Rattle.lrc_judge.proofs.reading.words_read.Given as goal

abbrev pub invariant-loop-position : goal.invariant-loop-position
invariant-loop-position l = AreRead l.acts l.position l.words
