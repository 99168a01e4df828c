-- The list has the entries of the chunks so far.
use Rattle.lrc_races_detector.specs.Chunks.{IsListed}
use Rattle.lrc_races_detector.proofs.chunks.list.Given as goal

abbrev pub invariant-loop-chunk : goal.invariant-loop-chunk
invariant-loop-chunk l = IsListed l.chunk-index l.chunks l.list.items
