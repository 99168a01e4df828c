-- Those so far are as they should be.
use Rattle.lrc_lazy_known.specs.Made.{AreEach}
use Rattle.lrc_lazy_known.specs.Tidy.{IsWrittenAs}
use Rattle.lrc_lazy_known.proofs.word.same.Given as goal

abbrev pub invariant-loop-knower : goal.invariant-loop-knower
invariant-loop-knower l = AreEach (IsWrittenAs l.word) l.after.items l.knower
