use Rattle.std.proofs.Common.{◌≡◌, replicate}
use Rattle.lrc_page.specs.Page.{zero_page}
use Rattle.lrc_table.specs.PageCopy.{fresh}
use Rattle.lrc_table.proofs.table.PageTable.new.Given as goal

abbrev pub invariant-loop : goal.invariant-loop
invariant-loop l = l.slots.items ≡ replicate l.counter (fresh (zero_page l.size))
