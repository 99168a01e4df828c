use Rattle.std.proofs.Common.{◌≡◌, refl, ap}
use Rattle.lrc_orders_table.specs.declared.rows.Rows.{Rows}
use Rattle.lrc_orders_table.specs.declared.table.Table.{Table}
use Rattle.lrc_orders.proofs.Keeping.{grows_not}
use Rattle.lrc_orders_table.proofs.Keeping.{changes_same, table_same}
use Rattle.lrc_orders_table.proofs.table.Table.put.Goals as goal

pub returns-clause-table : goal.returns-clause-table
returns-clause-table c = λ means known.
    let old = c.args.self.now in
    let e = c.in_ok-place.ensures in
    let new : Table = record old { rows = c.put.new.self } in
    let threads : new.rows.threads.keys ≡ old.rows.threads.keys = ap (λ (r : Rows). r.threads.keys) e.parts in
    table_same means old new threads refl known (ap (λ (r : Rows). r.nodes) e.parts) e.distinct known.afters
    (changes_same means old new threads refl e.widens.shared (grows_not old.afters.entries old.afters.entries refl) refl known.changes)
