-- The values of the names so far lie in their ranges.
use Rattle.std.proofs.Common.{◌≡◌, length}
use Rattle.lrc_orders_reach.proofs.Values.{AreInUpTo}
use Rattle.lrc_orders_reach.proofs.standing.Standing.of.Given as goal

abbrev pub invariant-loop-name : goal.invariant-loop-name
invariant-loop-name l = record {
  size : length l.names ≡ 32;
  are : AreInUpTo l.name l.names l.spot.privates;
}
