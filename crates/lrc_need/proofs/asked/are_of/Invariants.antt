use Rattle.std.proofs.Common.{◌≡◌, ℕ, ◌<◌, map, slice_index_or}
use Rattle.lrc_need.proofs.asked.are_of.Given as goal

abbrev pub invariant-loop-place : goal.invariant-loop-place
invariant-loop-place l = (k : ℕ) → k < l.place → slice_index_or l.indices k 0 ≡ slice_index_or (map (λ part. part.index) l.parts) k 0
