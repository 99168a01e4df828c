-- Those so far are as they should be.
use Rattle.std.proofs.Common.{◌≡◌}
use Rattle.std.specs.Prelude.{slice_index_or, false}
use Rattle.lrc_lazy_known.specs.Word.{number_before}
use Rattle.lrc_lazy_known.specs.Made.{AreEach}
use Rattle.lrc_lazy_known.proofs.word.row_without.Given as goal

abbrev pub invariant-loop-other : goal.invariant-loop-other
invariant-loop-other l = AreEach (λ z b. b ≡ slice_index_or l.row (number_before l.first l.dropped z) false) l.left.items l.other
