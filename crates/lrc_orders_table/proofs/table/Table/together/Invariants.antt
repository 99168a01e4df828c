-- The nodes so far have departed and settled.
use Rattle.lrc_orders.specs.declared.noted.Noted.{Noted}
use Rattle.lrc_orders_table.specs.Tables.{IsRowOf, IsTable, KeepsRows}
use Rattle.lrc_orders_table.proofs.Together.{AllGone}
use Rattle.lrc_orders_table.proofs.table.Table.together.Given as goal

abbrev pub invariant-loop-node : goal.invariant-loop-node
invariant-loop-node l = record {
  known : IsTable l.means l.self;
  keeps : KeepsRows l.initial.self l.self;
  gone : (key : Noted) → IsRowOf l.means l.initial.self l.row key → AllGone l.means key l.node l.self l.new l.traps;
}
