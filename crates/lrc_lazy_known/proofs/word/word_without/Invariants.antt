-- Those so far are as they should be.
use Rattle.lrc_lazy_known.specs.Made.{AreEach, IsKnownWithout}
use Rattle.lrc_lazy_known.specs.Tidy.{IsTidyKnown, IsTidyWord}
use Rattle.lrc_lazy_known.proofs.word.word_without.Given as goal

abbrev pub invariant-loop-knower : goal.invariant-loop-knower
invariant-loop-knower l = record {
  made : AreEach (IsKnownWithout l.word l.first l.dropped) l.left.items l.knower;
  tidy : AreEach (λ k known. IsTidyWord l.word → IsTidyKnown known) l.left.items l.knower;
}
