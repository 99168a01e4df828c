use Rattle.std.proofs.Common.{◌∙◌, ap}
use Rattle.std.proofs.lemmas.List.{get_or_read}
use Rattle.lrc_orders_table.specs.declared.next.Next.TheVariants.{Stopped}
use Rattle.lrc_orders_less.specs.Clash.{clash_by}
use Rattle.lrc_orders_less.proofs.reaches.clash_of.Goals as goal

pub returns : goal.returns
returns c =
    c.clash_by.ensures ∙ ap clash_by (get_or_read c.args.table.now.nexts.items c.args.number c.index.result.now c.requires c.index.ensures Stopped)
