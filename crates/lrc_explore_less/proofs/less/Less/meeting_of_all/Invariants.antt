-- No two nodes meet at the states before the place.
use Rattle.std.proofs.Common.{◌≡◌, true}
use Rattle.lrc_explore.specs.Reached.{AreCalm}
use Rattle.lrc_explore_less.proofs.less.Less.meeting_of_all.Given as goal

abbrev pub invariant-loop-place : goal.invariant-loop-place
invariant-loop-place l = l.races ≡ true → AreCalm l.task l.self.found.table.rows l.place
