-- No two nodes meet at the states before the place.
use Rattle.std.proofs.Common.{◌≡◌, true}
use Rattle.lrc_explore.specs.Reached.{AreCalm}
use Rattle.lrc_explore.proofs.task.Found.meeting_from.Given as goal

abbrev pub invariant-loop-place : goal.invariant-loop-place
invariant-loop-place l = l.races ≡ true → AreCalm l.task l.self.table.rows l.place
