-- Nobody knows anything of those from there on.
use Rattle.std.proofs.Common.{◌≤◌, length}
use Rattle.lrc_lazy_known.proofs.Cutting.{AreUnknownFrom}
use Rattle.lrc_lazy_known.proofs.known.count_of_known.Given as goal

abbrev pub invariant-loop-count : goal.invariant-loop-count
invariant-loop-count l = record { within : l.count ≤ length l.words; blank : AreUnknownFrom l.words l.count }

abbrev pub decreases-loop-count : goal.decreases-loop-count
decreases-loop-count l = l.count
