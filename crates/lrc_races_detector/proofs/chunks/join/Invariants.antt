-- The entries that the loop has come to are joined.
use Rattle.lrc_races_detector.specs.Vectors.{IsJoinedBelow}
use Rattle.lrc_races_detector.proofs.chunks.join.Given as goal

abbrev pub invariant-loop-thread : goal.invariant-loop-thread
invariant-loop-thread l = IsJoinedBelow l.thread l.initial.known.items l.more l.known.items
