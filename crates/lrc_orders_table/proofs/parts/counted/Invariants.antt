-- The counts so far are those of the nodes so far.
use Rattle.std.proofs.Common.{◌≡◌, map, take}
use Rattle.lrc_orders_settling.specs.Taking.{count_of}
use Rattle.lrc_orders_table.proofs.parts.counted.Given as goal

abbrev pub invariant-loop-spot : goal.invariant-loop-spot
invariant-loop-spot l = l.arrivals.items ≡ map count_of (take l.spot-index l.spots)
