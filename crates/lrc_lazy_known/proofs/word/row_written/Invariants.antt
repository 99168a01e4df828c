-- Those so far are as they should be.
use Rattle.std.proofs.Common.{◌≡◌}
use Rattle.lrc_lazy_known.specs.Word.{above_written}
use Rattle.lrc_lazy_known.specs.Made.{AreEach}
use Rattle.lrc_lazy_known.proofs.word.row_written.Given as goal

abbrev pub invariant-loop-other : goal.invariant-loop-other
invariant-loop-other l = AreEach (λ z b. b ≡ above_written l.word l.writer l.knower z) l.row.items l.other
