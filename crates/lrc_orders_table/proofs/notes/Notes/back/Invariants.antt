-- The notes so far, the last one first, are those of as many nodes, from the last node on.
use Rattle.std.proofs.Common.{◌≡◌, List}
use Rattle.std.specs.Prelude.{◌-◌, reverse}
use Rattle.lrc_trace.specs.declared.act.Act.{Act}
use Rattle.lrc_orders.specs.Notes.{notes_from}
use Rattle.lrc_orders_table.specs.Links.{HasLasts}
use Rattle.lrc_orders_table.proofs.notes.Notes.back.Given as goal

abbrev pub invariant-loop-step : goal.invariant-loop-step
invariant-loop-step l =
    (made : List Act) → HasLasts l.self.links.keys l.lasts made → l.acts.items ≡ reverse (notes_from (16 - l.step) l.step made)
