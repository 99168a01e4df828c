-- Those so far are as they should be.
use Rattle.lrc_lazy_known.specs.Made.{AreEach, IsWrittenBy}
use Rattle.lrc_lazy_known.specs.Tidy.{IsTidyKnown, IsTidyWord}
use Rattle.lrc_lazy_known.proofs.word.written.Given as goal

abbrev pub invariant-loop-knower : goal.invariant-loop-knower
invariant-loop-knower l = record {
  made : AreEach (IsWrittenBy l.word l.writer l.value) l.after.items l.knower;
  tidy : AreEach (λ k known. IsTidyWord l.word → IsTidyKnown known) l.after.items l.knower;
}
