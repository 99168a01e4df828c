-- The chunks that the loop has come to are joined.
use Rattle.lrc_races_detector.specs.Chunks.{AreJoinedBelow}
use Rattle.lrc_races_detector.proofs.chunks.join_all.Given as goal

abbrev pub invariant-loop-index : goal.invariant-loop-index
invariant-loop-index l = AreJoinedBelow l.index l.initial.chunks.items l.more l.chunks.items
