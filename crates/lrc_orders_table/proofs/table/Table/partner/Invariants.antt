-- None of the nodes so far is a partner.
use Rattle.lrc_exec.specs.States.{plain_at}
use Rattle.lrc_orders.specs.declared.noted.Noted.{Noted}
use Rattle.lrc_orders.specs.Meeting.{HasNoPartner}
use Rattle.lrc_orders_table.specs.declared.known.Means.{Means}
use Rattle.lrc_orders_table.specs.Tables.{IsRowOf, IsTable}
use Rattle.lrc_orders_table.proofs.table.Table.partner.Given as goal

abbrev pub invariant-loop-q : goal.invariant-loop-q
invariant-loop-q l = (means : Means) (key : Noted) → IsTable means l.self → IsRowOf means l.self l.row key
    → HasNoPartner (plain_at means.flat key.state) l.p l.q l.word l.writes
