use Rattle.std.proofs.Common.{◌≡◌, take}
use Rattle.std.specs.Prelude.{fold}
use Rattle.lrc_page.specs.Changes.{applied}
use Rattle.lrc_table.proofs.slot.Slot.repair.Given as goal

abbrev pub invariant-loop-list : goal.invariant-loop-list
invariant-loop-list l = l.self ≡ record l.initial.self { values = fold applied l.initial.self.values (take l.list-index l.changes) }
