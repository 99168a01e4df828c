-- What is known is so.
use Rattle.lrc_orders_less.specs.Reaches.{AreReaches}
use Rattle.lrc_orders_less.proofs.reaches.Reaches.known_node.Given as goal

abbrev pub invariant-loop-node : goal.invariant-loop-node
invariant-loop-node l = AreReaches l.means.flat l.table.rows.threads.keys l.self
