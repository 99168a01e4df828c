-- The pairs with the entries from the first one beyond up to here are added, and all these are of the lane and earlier.
use Rattle.std.proofs.Common.{◌≤◌}
use Rattle.lrc_judge.specs.Adding.{Adds}
use Rattle.lrc_judge.proofs.Searching.{IsFoundFrom}
use Rattle.lrc_judge.proofs.lanes.add_from.Given as goal

abbrev pub invariant-loop-at : goal.invariant-loop-at
invariant-loop-at l = record {
  from : l.beyond ≤ l.at;
  found : Adds l.fn.pairs.items l.pairs.items (IsFoundFrom l.entries l.lane l.position l.beyond l.at);
}
