use Rattle.std.proofs.Common.{◌∙◌, ap, rules, sym, tests}
use Rattle.std.specs.Prelude.{◌||◌}
use Rattle.std.specs.List.{list_any}
use Rattle.std.proofs.lemmas.Iterator.{YieldsList-from_slice}
use Rattle.std.proofs.lemmas.Iterator.Search.{any_from_yields_List}
use Rattle.lrc_orders_table.specs.Shared.{is_release}
use Rattle.lrc_orders_table.proofs.shared.changes.Goals as goal

pub returns-else-is_change : goal.returns-else-is_change
returns-else-is_change c =
    let deeds = c.args.deeds.now in
    any_from_yields_List is_release _ _ c.any.result c.any.ensures.ran (YieldsList-from_slice deeds cc) (λ x b q k. search (rules, tests))
    ∙ ap (λ b. b || list_any is_release deeds) (sym c.if-is_change.false ∙ c.is_change.ensures)
