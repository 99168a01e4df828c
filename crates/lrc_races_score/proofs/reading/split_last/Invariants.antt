-- The byte is not among those behind.
use Rattle.std.proofs.Common.{◌≤◌, drop, length}
use Rattle.lrc_races_lines.specs.Lacking.{Lacks}
use Rattle.lrc_races_score.proofs.reading.split_last.Given as goal

abbrev pub invariant-loop-at : goal.invariant-loop-at
invariant-loop-at l = (l.at ≤ length l.text) × Lacks l.byte (drop l.at l.text)

abbrev pub decreases-loop-at : goal.decreases-loop-at
decreases-loop-at l = l.at
