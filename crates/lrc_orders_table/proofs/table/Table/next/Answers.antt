use Rattle.std.proofs.Common.{◌∙◌, arith}
use Rattle.std.specs.Prelude.{slice_index}
use Rattle.std.proofs.lemmas.List.{get_or_read}
use Rattle.lrc_orders_table.specs.declared.next.Next.TheVariants.{Stopped}
use Rattle.lrc_orders_table.proofs.Fitting.{next_within}
use Rattle.lrc_orders_table.proofs.RowNodes.{next_here}
use Rattle.lrc_orders_table.proofs.table.Table.next.Goals as goal

pub index-requires : goal.index-requires
index-requires c =
    let within = next_within c.args.self.now c.args.row.now c.args.node c.requires.row c.requires.node in
    let counted = c.args.self.now.nexts.ok.0 in
    omega (arith, within, counted)

pub returns-clause-at : goal.returns-clause-at
returns-clause-at c =
    let table = c.args.self.now in
    let row = c.args.row.now in
    get_or_read table.nexts.items (slice_index row.threads c.args.node) c.index.result.now
    (next_within table row c.args.node c.requires.row c.requires.node) c.index.ensures Stopped

pub returns-clause-means : goal.returns-clause-means
returns-clause-means c = λ means key spot known of here.
    let table = c.args.self.now in
    let row = c.args.row.now in
    get_or_read table.nexts.items (slice_index row.threads c.args.node) c.index.result.now
    (next_within table row c.args.node c.requires.row c.requires.node) c.index.ensures Stopped
    ∙ next_here means table row key c.args.node spot known of here
