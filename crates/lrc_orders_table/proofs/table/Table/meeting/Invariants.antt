-- The nodes so far meet no higher one.
use Rattle.lrc_exec.specs.States.{plain_at}
use Rattle.lrc_orders.specs.declared.noted.Noted.{Noted}
use Rattle.lrc_orders.proofs.Pairs.{CalmBelow}
use Rattle.lrc_orders_table.specs.declared.known.Means.{Means}
use Rattle.lrc_orders_table.specs.Tables.{IsRowOf, IsTable}
use Rattle.lrc_orders_table.proofs.table.Table.meeting.Given as goal

abbrev pub invariant-loop-p : goal.invariant-loop-p
invariant-loop-p l = (means : Means) (key : Noted) → IsTable means l.self → IsRowOf means l.self l.row key
    → CalmBelow (plain_at means.flat key.state) l.p
