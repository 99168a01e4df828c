-- The greatest of the entries so far.
use Rattle.std.proofs.Common.{◌≡◌}
use Rattle.lrc_races_detector.specs.Vectors.{greatest}
use Rattle.lrc_races_detector.proofs.vectors.greatest.Given as goal

abbrev pub invariant-loop-entry : goal.invariant-loop-entry
invariant-loop-entry l = l.most ≡ greatest l.recent l.thread l.entry-index
