-- None of the entries that the loop has come to is greater.
use Rattle.std.proofs.Common.{◌<◌, ◌≤◌, ℕ}
use Rattle.std.specs.Prelude.{slice_index}
use Rattle.lrc_races_detector.proofs.chunks.is_most.Given as goal

abbrev pub invariant-loop-value : goal.invariant-loop-value
invariant-loop-value l = (place : ℕ) → place < l.value-index → slice_index l.entries place ≤ l.most
