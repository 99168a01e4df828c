-- Those so far are counted.
use Rattle.std.proofs.Common.{◌≡◌, ◌≤◌, take}
use Rattle.std.specs.Prelude.{count_by, zip}
use Rattle.lrc_races_scored.specs.Sorts.{is_false_of}
use Rattle.lrc_races_scored.proofs.tally.count_wrong.Given as goal

abbrev pub invariant-loop-place : goal.invariant-loop-place
invariant-loop-place l = record {
  counted : l.count ≡ count_by (is_false_of l.fn.sort) (take l.place (zip l.claims l.verdicts));
  few : l.count ≤ l.place;
}
