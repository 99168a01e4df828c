-- The program is stuck at none of the states before the place.
use Rattle.lrc_explore.specs.Reached.{AreNowhereStuck}
use Rattle.lrc_explore.proofs.task.Found.stuck_of_all.Given as goal

abbrev pub invariant-loop-place : goal.invariant-loop-place
invariant-loop-place l = AreNowhereStuck l.task l.self.table.rows l.place
