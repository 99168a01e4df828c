-- No less is known of the threads that the loop has come to than they know of themselves.
use Rattle.std.proofs.Common.{◌<◌, ◌≤◌, ◌+◌, ℕ}
use Rattle.std.specs.Prelude.{slice_index}
use Rattle.lrc_races_detector.specs.Clocks.{row}
use Rattle.lrc_races_detector.proofs.clocks.Clocks.knows_all.Given as goal

abbrev pub invariant-loop-place : goal.invariant-loop-place
invariant-loop-place l = (thread : ℕ) → l.first ≤ thread → thread < l.first + l.place
    → slice_index (row l.self thread) thread ≤ slice_index (row l.self l.index) thread
