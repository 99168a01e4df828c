use Rattle.std.proofs.Common.{◌∙◌, sym, ap}
use Rattle.lrc_orders_table.specs.Shared.{can_act}
use Rattle.lrc_orders_table.proofs.Fitting.{lock_there}
use Rattle.lrc_orders_table.proofs.table.Table.can_act.Goals as goal

pub is_free-requires : goal.is_free-requires
is_free-requires c =
    lock_there c.args.self.now c.args.row.now c.args.node c.requires.row c.requires.node c.in-Acquires.lock (sym c.next.ensures.at ∙ c.in-Acquires.is)

pub returns-in-Acquires : goal.returns-in-Acquires
returns-in-Acquires c = λ words holders at.
    c.is_free.ensures words holders at ∙ ap (λ n. can_act n holders c.args.departs) (sym c.in-Acquires.is ∙ c.next.ensures.at)
