-- 0 and what the writes so far wrote are added.
use Rattle.lrc_judge.specs.Adding.{Adds}
use Rattle.lrc_judge.proofs.Allowed.{IsWrittenBy}
use Rattle.lrc_judge.proofs.reading.add_written.Given as goal

abbrev pub invariant-loop-earlier : goal.invariant-loop-earlier
invariant-loop-earlier l = Adds l.fn.values.items l.values.items (IsWrittenBy l.acts l.position l.word l.earlier)
