-- The entries so far are raised.
use Rattle.std.proofs.Common.{◌≡◌, ℕ, max, slice_index}
use Rattle.lrc_races_detector.specs.Chunks.{values}
use Rattle.lrc_races_detector.specs.Vectors.{greatest}
use Rattle.lrc_races_detector.proofs.vectors.raise_all.Given as goal

abbrev pub invariant-loop-entry : goal.invariant-loop-entry
invariant-loop-entry l = (thread : ℕ) → slice_index (values l.chunks.items) thread
    ≡ max (slice_index (values l.initial.chunks.items) thread) (greatest l.recent thread l.entry-index)
