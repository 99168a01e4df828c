-- None of the nodes so far can make an act.
use Rattle.std.proofs.Common.{◌≡◌, ℕ, ◌<◌, List, false}
use Rattle.std.specs.Prelude.{Option}
use Rattle.lrc_orders_memory.specs.Sharing.{IsSharedAt}
use Rattle.lrc_orders_table.specs.Shared.{can_act}
use Rattle.lrc_orders_table.specs.Tables.{next_at}
use Rattle.lrc_orders_table.proofs.table.Table.is_still.Given as goal

abbrev pub invariant-loop-node : goal.invariant-loop-node
invariant-loop-node l = (k : ℕ) (words : List ℕ) (holders : List (Option ℕ)) → k < l.node → IsSharedAt l.self.rows.shared l.row.shared words holders
    → can_act (next_at l.self l.row k) holders l.departs ≡ false
