-- Notes and traps of acts, and of others behind them.
use Rattle.std.proofs.Common.{◌≡◌, List, [], ◌∷◌, ◌++◌, refl}
use Rattle.std.specs.Prelude.{◌||◌}
use Rattle.std.proofs.lemmas.List.Folds.{list_any-append}
use Rattle.lrc_trace.specs.declared.act.Act.{Act}
use Rattle.lrc_orders.specs.Notes.{notes_with}
use Rattle.lrc_orders.specs.Traps.{has_trap, is_trap}
use Rattle.lrc_orders_table.specs.Nexts.{notes_on}

-- one of the acts is a trap where one of those before is, or one of those behind
pub traps_again : (acts more : List Act) → has_trap (acts ++ more) ≡ (has_trap acts || has_trap more)
traps_again acts more = list_any-append (λ (act : Act). is_trap act.deed) acts more

pub notes_again : (notes more last : List Act) → notes_on notes (more ++ last) ≡ notes_on (notes_on notes more) last
notes_again notes [] last = refl
notes_again notes (act ∷ more) last = notes_again (notes_with notes act) more last
