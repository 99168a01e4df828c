-- Those from there on know nothing.
use Rattle.std.proofs.Common.{◌≤◌, length}
use Rattle.lrc_lazy_known.proofs.Cutting.{AreBlankFrom}
use Rattle.lrc_lazy_known.proofs.word.count_who_know.Given as goal

abbrev pub invariant-loop-count : goal.invariant-loop-count
invariant-loop-count l = record { within : l.count ≤ length l.word; blank : AreBlankFrom l.word l.count }

abbrev pub decreases-loop-count : goal.decreases-loop-count
decreases-loop-count l = l.count
