use Rattle.std.proofs.Common.{◌≡◌}
use Rattle.lrc_table.proofs.Tables.{IsClosedSoFar}
use Rattle.lrc_table.proofs.table.PageTable.close.Given as goal

abbrev pub invariant-loop-page : goal.invariant-loop-page
invariant-loop-page l = record {
  size : l.self-inside.size ≡ l.initial.self-inside.size;
  so_far : IsClosedSoFar l.page-items l.page-index l.initial.self-inside.slots.items l.self-inside.slots.items;
}
