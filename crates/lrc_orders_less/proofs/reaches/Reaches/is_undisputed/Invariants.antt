-- What is known is so, and the nodes so far stay clear.
use Rattle.std.proofs.Common.{ℕ, ◌<◌}
use Rattle.lrc_orders.specs.declared.noted.Noted.{Noted}
use Rattle.lrc_orders_table.specs.Tables.{IsRowOf}
use Rattle.lrc_orders_less.specs.Reaches.{AreReaches, StaysClear}
use Rattle.lrc_orders_less.proofs.reaches.Reaches.is_undisputed.Given as goal

abbrev pub invariant-loop-other : goal.invariant-loop-other
invariant-loop-other l = record {
  reaches : AreReaches l.means.flat l.table.rows.threads.keys l.self;
  clear : (k : ℕ) → k < l.other → (key : Noted) → IsRowOf l.means l.table l.row key → StaysClear l.means.flat key.state l.node k;
}
