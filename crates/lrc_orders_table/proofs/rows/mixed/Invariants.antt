-- The numbers of the threads so far are mixed.
use Rattle.std.proofs.Common.{◌≡◌, fold, take}
use Rattle.lrc_orders_table.specs.RowHash.{mix}
use Rattle.lrc_orders_table.proofs.rows.mixed.Given as goal

abbrev pub invariant-loop-number : goal.invariant-loop-number
invariant-loop-number l = l.all ≡ fold mix 0 (take l.number-index l.row.threads)
