-- The row is blank from there on.
use Rattle.std.proofs.Common.{◌≤◌, length}
use Rattle.lrc_lazy_known.proofs.Cutting.{IsBlankFrom}
use Rattle.lrc_lazy_known.proofs.word.width_of.Given as goal

abbrev pub invariant-loop-width : goal.invariant-loop-width
invariant-loop-width l = record { within : l.width ≤ length l.row; blank : IsBlankFrom l.row l.width }

abbrev pub decreases-loop-width : goal.decreases-loop-width
decreases-loop-width l = l.width
