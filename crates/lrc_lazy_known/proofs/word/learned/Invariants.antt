-- Those so far are as they should be.
use Rattle.lrc_lazy_known.specs.Made.{AreEach, IsLearnedBy}
use Rattle.lrc_lazy_known.specs.Tidy.{IsTidyKnown, IsTidyWord}
use Rattle.lrc_lazy_known.proofs.word.learned.Given as goal

abbrev pub invariant-loop-knower : goal.invariant-loop-knower
invariant-loop-knower l = record {
  made : AreEach (IsLearnedBy l.word l.learner l.teacher) l.after.items l.knower;
  tidy : AreEach (λ k known. IsTidyWord l.word → IsTidyKnown known) l.after.items l.knower;
}
