use Rattle.lrc_envelope.specs.Records.{GoWith}
use Rattle.test_parts.proofs.messages.intervals_without_pages.Given as goal

abbrev pub invariant-loop-before : goal.invariant-loop-before
invariant-loop-before l = GoWith 1 l.intervals
