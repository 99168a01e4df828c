-- The states before the place were gathered; past all of them there are no more than there may be.
use Rattle.std.proofs.Common.{◌≤◌, ◌-◌}
use Rattle.lrc_orders_table.specs.Rows.{row_count}
use Rattle.lrc_explore.proofs.Seeking.{Gathering}
use Rattle.lrc_explore.proofs.task.Found.gather.Given as goal

abbrev pub invariant-loop-place : goal.invariant-loop-place
invariant-loop-place l =
    Gathering l.task l.initial.self l.self l.outcomes.keys l.place × (row_count l.self.table.rows ≤ l.place → row_count l.self.table.rows ≤ l.task.most)

abbrev pub decreases-loop-place : goal.decreases-loop-place
decreases-loop-place l = l.task.most - l.place
