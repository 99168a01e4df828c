use Rattle.std.proofs.Common.{◌≡◌, true, refl}
use Rattle.std.specs.Prelude.{slice_index}
use Rattle.std.proofs.lemmas.Result.{IfOk-weaker}
use Rattle.lrc_orders.specs.declared.noted.Noted.{Noted}
use Rattle.lrc_orders_table.specs.Tables.{IsRowOf}
use Rattle.lrc_orders_less.specs.Reaches.{IsClearPair, StaysClear}
use Rattle.lrc_orders_less.specs.declared.reaches.Pair.{Pair}
use Rattle.lrc_orders_less.proofs.Pairs.{clear_row, thread_is}
use Rattle.lrc_orders_less.proofs.reaches.Reaches.stays_clear.Goals as goal

pub returns-then-other-node-clause-clear : goal.returns-then-other-node-clause-clear
returns-then-other-node-clause-clear c = λ e key of own spot apart here there. absurd (apart c.if-other-node.true)

pub keeps_clear-requires-clause-acting : goal.keeps_clear-requires-clause-acting
keeps_clear-requires-clause-acting c = thread_is c.args.table.now c.args.row.now c.args.node c.requires.row c.requires.node

pub keeps_clear-requires-clause-other : goal.keeps_clear-requires-clause-other
keeps_clear-requires-clause-other c = thread_is c.args.table.now c.args.row.now c.args.other c.requires.row c.requires.other

pub returns-clause-clear : goal.returns-clause-clear
returns-clause-clear c =
    let means = c.args.means.now in
    let table = c.args.table.now in
    let row = c.args.row.now in
    let pair : Pair = record { acting = slice_index row.threads c.args.node; other = slice_index row.threads c.args.other } in
    IfOk-weaker c.keeps_clear.result (λ known. known ≡ true → IsClearPair means.flat table.rows.threads.keys pair)
    (λ known. known ≡ true → (key : Noted) → IsRowOf means table row key → StaysClear means.flat key.state c.args.node c.args.other)
    (λ known clear e key of. clear_row means table row key c.args.node c.args.other pair of refl refl (clear e)) c.keeps_clear.ensures.clear
