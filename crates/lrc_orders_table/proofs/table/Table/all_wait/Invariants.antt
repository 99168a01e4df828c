-- The nodes so far wait.
use Rattle.std.proofs.Common.{◌≡◌, ℕ, ◌<◌, true}
use Rattle.lrc_orders_table.specs.Shared.{is_waiting}
use Rattle.lrc_orders_table.specs.Tables.{next_at}
use Rattle.lrc_orders_table.proofs.table.Table.all_wait.Given as goal

abbrev pub invariant-loop-node : goal.invariant-loop-node
invariant-loop-node l = (k : ℕ) → k < l.node → is_waiting (next_at l.self l.row k) ≡ true
