-- Those so far are as they should be.
use Rattle.std.proofs.Common.{◌≡◌}
use Rattle.lrc_lazy_known.specs.Word.{above_learned}
use Rattle.lrc_lazy_known.specs.Made.{AreEach}
use Rattle.lrc_lazy_known.proofs.word.row_learned.Given as goal

abbrev pub invariant-loop-other : goal.invariant-loop-other
invariant-loop-other l = AreEach (λ z b. b ≡ above_learned l.word l.learner l.teacher l.knower z) l.row.items l.other
