-- The threads so far share what the arrives of the closed cycle know.
use Rattle.lrc_races_detector.specs.Barriers.{IsKeptBelow}
use Rattle.lrc_races_detector.specs.Vectors.{held}
use Rattle.lrc_races_detector.proofs.barriers.keep.Given as goal

abbrev pub invariant-loop-thread : goal.invariant-loop-thread
invariant-loop-thread l = IsKeptBelow l.thread l.initial.closed.items l.closed.items l.of l.current (held l.known.value)
