-- The chunks that the loop has come to are shared.
use Rattle.lrc_races_detector.specs.Chunks.{AreSharedBelow}
use Rattle.lrc_races_detector.proofs.chunks.share_all.Given as goal

abbrev pub invariant-loop-chunk : goal.invariant-loop-chunk
invariant-loop-chunk l = AreSharedBelow l.chunk-index l.more l.chunks.items
