-- From a place the places so far, from their end, are on the way.
use Rattle.std.specs.Prelude.{reverse}
use Rattle.std.proofs.Common.{◌≤◌}
use Rattle.lrc_explore.specs.Told.{Comes}
use Rattle.lrc_explore.proofs.task.Found.path_to.Given as goal

abbrev pub invariant-loop-at : goal.invariant-loop-at
invariant-loop-at l = Comes l.self.origins.items l.at (reverse l.path.items) l.place × (l.at ≤ l.place)

abbrev pub decreases-loop-at : goal.decreases-loop-at
decreases-loop-at l = l.at
