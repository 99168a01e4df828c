-- Those so far are counted.
use Rattle.std.proofs.Common.{◌≡◌, ◌≤◌, take}
use Rattle.lrc_races_scored.specs.Sorts.{claims_of}
use Rattle.lrc_races_scored.proofs.tally.count.Given as goal

abbrev pub invariant-loop-lined : goal.invariant-loop-lined
invariant-loop-lined l = record {
  counted : l.count ≡ claims_of l.fn.sort (take l.lined-index l.claims);
  few : l.count ≤ l.lined-index;
}
