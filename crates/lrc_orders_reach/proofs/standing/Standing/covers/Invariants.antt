use Rattle.lrc_orders_reach.proofs.Values.{AreWithinUpTo}
use Rattle.lrc_orders_reach.proofs.standing.Standing.covers.Given as goal

abbrev pub invariant-loop-name : goal.invariant-loop-name
invariant-loop-name l = AreWithinUpTo l.name l.other.names l.self.names
