-- The entries so far are behind the list.
use Rattle.lrc_races_detector.specs.Chunks.{IsAppended}
use Rattle.lrc_races_detector.proofs.chunks.append.Given as goal

abbrev pub invariant-loop-place : goal.invariant-loop-place
invariant-loop-place l = IsAppended l.place l.initial.list.items l.chunk l.list.items
