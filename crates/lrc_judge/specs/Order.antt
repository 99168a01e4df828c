-- Happens before, as a table.
use Rattle.std.specs.Prelude.{ℕ, ◌↔◌, ◌&&◌, nat_lt, Bool, false, IsTrue, List, Option, Some, slice_get, slice_index}
use Rattle.lrc_trace.specs.declared.act.Act.{Act}
use Rattle.lrc_trace.specs.Order.{HappensBefore}
use Rattle.lrc_judge.specs.declared.reach.Reached.{Reached}
use Rattle.lrc_judge.specs.declared.order.Order.{Order}

-- whether position i is among those that the later row is reached by, where the earlier row is that of i
abbrev pub is_reached : ℕ → Option Reached → Option Reached → Bool
is_reached i (Some earlier) (Some later) = nat_lt i (slice_index later.reach.latest earlier.node)
is_reached i _ _ = false

-- whether the act at i happens before the one at j
abbrev pub is_before : Order → ℕ → ℕ → Bool
is_before order i j = nat_lt i j && is_reached i (slice_get order.rows.items i) (slice_get order.rows.items j)

-- the order is that of the run
abbrev pub IsOrderOf : List Act → Order → Type 0
IsOrderOf run order = (i j : ℕ) → IsTrue (is_before order i j) ↔ HappensBefore run i j
