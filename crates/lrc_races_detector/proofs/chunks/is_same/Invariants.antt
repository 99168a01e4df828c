-- Unless some differ, the entries that the loop has come to are the same.
use Rattle.std.proofs.Common.{◌≡◌, ◌<◌, ℕ, false}
use Rattle.std.specs.Prelude.{slice_index}
use Rattle.lrc_races_detector.proofs.chunks.is_same.Given as goal

abbrev pub invariant-loop-place : goal.invariant-loop-place
invariant-loop-place l = l.differs ≡ false → (place : ℕ) → place < l.place → slice_index l.more place ≡ slice_index l.known place
